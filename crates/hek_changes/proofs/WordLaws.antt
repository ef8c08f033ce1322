-- The change that leads from one number to another.
use Rattle.std.proofs.Common.{◌≡◌, refl, subst, ◌↔◌, ℕ, Option, Some, None}
use Rattle.hek_rules.specs.declared.word.BeginRecord.{BeginRecord}
use Rattle.hek_rules.specs.declared.word.EndRecord.{EndRecord}
use Rattle.hek_changes.specs.declared.change.BeginChange.{BeginChange}
use Rattle.hek_changes.specs.declared.change.EndChange.{EndChange}
use Rattle.hek_changes.specs.Changes.{BeginLeads, BeginMoves, EndLeads, EndMoves, IsBeginChange, IsBeginOf, IsEndChange, IsEndOf}

pub not_old_begin : (t old new : ℕ) → ((w : BeginRecord) → (None ≡ Some w) ↔ IsBeginOf w old) → IsBeginChange t old new None
not_old_begin t old new none = λ c. (λ (is : None ≡ Some c). cc, λ (m : BeginMoves t old new c). let is : None ≡ Some m.before = (none m.before).1 m.is_old in cc)

pub not_new_begin : (t old new : ℕ) → ((w : BeginRecord) → (None ≡ Some w) ↔ IsBeginOf w new) → IsBeginChange t old new None
not_new_begin t old new none = λ c. (λ (is : None ≡ Some c). cc, λ (m : BeginMoves t old new c). let is : None ≡ Some m.after = (none m.after).1 m.is_new in cc)

begin_same : (before after word next : BeginRecord) (t : ℕ) (c : BeginChange) → Some before ≡ Some word → Some after ≡ Some next → BeginLeads t c word next → BeginLeads t c before after
begin_same before after word next t c p q h =
    let old : word ≡ before = cc in
    let new : next ≡ after = cc in
    subst (λ (b : BeginRecord). BeginLeads t c b after) old (subst (λ (a : BeginRecord). BeginLeads t c word a) new h)

pub begin_found : (t old new : ℕ) (before after : BeginRecord) (found : Option BeginChange) → ((w : BeginRecord) → (Some before ≡ Some w) ↔ IsBeginOf w old) → ((w : BeginRecord) → (Some after ≡ Some w) ↔ IsBeginOf w new)
    → ((c : BeginChange) → (found ≡ Some c) ↔ BeginLeads t c before after) → IsBeginChange t old new found
begin_found t old new before after found is_old is_new leads = λ c. (
  λ (is : found ≡ Some c). record { before = before; after = after; is_old = (is_old before).0 refl; is_new = (is_new after).0 refl; leads = (leads c).0 is },
  λ (m : BeginMoves t old new c). (leads c).1 (begin_same before after m.before m.after t c ((is_old m.before).1 m.is_old) ((is_new m.after).1 m.is_new) m.leads),
)

pub not_old_end : (t old new : ℕ) → ((w : EndRecord) → (None ≡ Some w) ↔ IsEndOf w old) → IsEndChange t old new None
not_old_end t old new none = λ c. (λ (is : None ≡ Some c). cc, λ (m : EndMoves t old new c). let is : None ≡ Some m.before = (none m.before).1 m.is_old in cc)

pub not_new_end : (t old new : ℕ) → ((w : EndRecord) → (None ≡ Some w) ↔ IsEndOf w new) → IsEndChange t old new None
not_new_end t old new none = λ c. (λ (is : None ≡ Some c). cc, λ (m : EndMoves t old new c). let is : None ≡ Some m.after = (none m.after).1 m.is_new in cc)

end_same : (before after word next : EndRecord) (t : ℕ) (c : EndChange) → Some before ≡ Some word → Some after ≡ Some next → EndLeads t c word next → EndLeads t c before after
end_same before after word next t c p q h =
    let old : word ≡ before = cc in
    let new : next ≡ after = cc in
    subst (λ (b : EndRecord). EndLeads t c b after) old (subst (λ (a : EndRecord). EndLeads t c word a) new h)

pub end_found : (t old new : ℕ) (before after : EndRecord) (found : Option EndChange) → ((w : EndRecord) → (Some before ≡ Some w) ↔ IsEndOf w old) → ((w : EndRecord) → (Some after ≡ Some w) ↔ IsEndOf w new)
    → ((c : EndChange) → (found ≡ Some c) ↔ EndLeads t c before after) → IsEndChange t old new found
end_found t old new before after found is_old is_new leads = λ c. (
  λ (is : found ≡ Some c). record { before = before; after = after; is_old = (is_old before).0 refl; is_new = (is_new after).0 refl; leads = (leads c).0 is },
  λ (m : EndMoves t old new c). (leads c).1 (end_same before after m.before m.after t c ((is_old m.before).1 m.is_old) ((is_new m.after).1 m.is_new) m.leads),
)
