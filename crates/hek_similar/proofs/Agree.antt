-- Outcomes that agree: replies equal without their times, worlds similar.
use Rattle.std.proofs.Common.{◌≡◌, ℕ, Bool, true, false, List, refl, ◌∙◌, ap, subst}
use Rattle.std.specs.Prelude.{map, if◌then◌else◌}
use Rattle.hek_rules.specs.World.{World, Version, Txn}
use Rattle.hek_rules.specs.Table.{Outcome, unchanged}
use Rattle.hek_rules.specs.declared.reply.Reply.{Reply}
use Rattle.hek_similar.specs.Similar.{Similar, timeless_reply, timeless_version, timeless_txn}
use Rattle.hek_similar.proofs.Alike.{Alike}
use Rattle.hek_similar.proofs.Counts.{beside}

pub record Agree (o p : Outcome) : Type 0 where
  pub reply : timeless_reply o.reply ≡ timeless_reply p.reply
  pub world : Similar o.world p.world

pub beside-similar : (w : World) (c : ℕ) (us : List Version) (ss : List Txn) → Alike w.versions us w.txns ss → Similar w (beside w c us ss)
beside-similar w c us ss a = record {
  same = ap {A = List Version} {B = World} (λ l. record w { clock = 0; versions = l; txns = map timeless_txn w.txns }) a.versions
      ∙ ap {A = List Txn} {B = World} (λ l. record w { clock = 0; versions = map timeless_version us; txns = l }) a.txns;
  looks = a.looks;
}

pub similar-alike : (w x : World) → Similar w x → Alike w.versions x.versions w.txns x.txns
similar-alike w x s = record { versions = ap (λ y. y.versions) s.same; txns = ap (λ y. y.txns) s.same; looks = s.looks }

-- a similar world is the same world with another clock, other versions and other transactions
pub similar-beside : (w x : World) → Similar w x → beside w x.clock x.versions x.txns ≡ x
similar-beside w x s = ap {A = World} {B = World} (λ y. record y { clock = x.clock; versions = x.versions; txns = x.txns }) s.same

-- a property of two outcomes, each by one test
pub two_conds : {X : Type 0} (b : Bool) (x y z u : X) (P : X → X → Type 0) → (b ≡ true → P x z) → (b ≡ false → P y u) → P (if b then x else y) (if b then z else u)
two_conds true x y z u P this that = this refl
two_conds false x y z u P this that = that refl

-- each by its own test, and the tests are equal
pub two_tests : {X : Type 0} (b c : Bool) (x y z u : X) (P : X → X → Type 0) → b ≡ c → (b ≡ true → P x z) → (b ≡ false → P y u) → P (if b then x else y) (if c then z else u)
two_tests b c x y z u P e this that = subst (λ d. P (if b then x else y) (if d then z else u)) e (two_conds b x y z u P this that)

pub unchanged-agree : (w : World) (c : ℕ) (us : List Version) (ss : List Txn) → Alike w.versions us w.txns ss → (r s : Reply) → timeless_reply r ≡ timeless_reply s → Agree (unchanged w r) (unchanged (beside w c us ss) s)
unchanged-agree w c us ss a r s e = record { reply = e; world = beside-similar w c us ss a }
