-- One more wait for a holder.
use Rattle.std.proofs.Common.{◌≡◌, ℕ, ◌+◌, ◌<◌, ◌≤◌, Bool, true, false, List, [], ◌∷◌, ◌++◌, length, refl, ◌∙◌, sym, ap, subst, arith, nat_eq, ⊎_elim, drop, get_or}
use Rattle.std.specs.Prelude.{◌==◌, ◌||◌, not}
use Rattle.std.proofs.lemmas.List.{drop_more}
use Rattle.std.proofs.lemmas.Bool.{cond-false, cond_both, cases_eq, false≢true}
use Rattle.hek_rules.specs.Listing.{is_among}
use Rattle.hek_txn.specs.Entries.{Entries, no_entries, items_of, joined}
use Rattle.hek_txn.specs.TxnTable.{TxnTable, Declared, IsEven, entry_at, set_at, waits_of, with_waits, waiting_list_of, with_waiting_list}
use Rattle.hek_txn.specs.TxnLemmas.{among_flipped, entry_at_set, length_set_at}
use Rattle.hek_txn.proofs.EntryLemmas.{set_at-twice, entry_at-other, items-entry, items-set, among-appended}
use Rattle.hek_buckets.specs.Waited.{Waiting, waiting_of, waiting_for, waiting_for_all, with_waiting, imposed_waits, IsReady, StaysReady}

pub ready-same : (ts : TxnTable) (t : ℕ) → StaysReady ts ts t
ready-same ts t = record { declared = λ h d. d; ready = λ h d r. r; even = λ e. e }

-- the tables before and after a new wait of t for h
pub record Imposed (old new : TxnTable) (h t : ℕ) : Type 0 where
  pub even : IsEven old
  pub txn : Declared old t
  pub holder : Declared old h
  pub other : (h == t) ≡ false
  pub fresh : is_among (waiting_list_of old h).items t ≡ false
  pub txns : new ≡ with_waiting_list (imposed_waits old h t) h (waiting_list_of new h)
  pub items : (waiting_list_of new h).items ≡ joined nat_eq (waiting_list_of old h).items t

module _ {old new : TxnTable} {h t : ℕ} (i : Imposed old new h t) where
  changed : new ≡ record (with_waits old t (waits_of old t + 1)) { waiting_lists = set_at old.waiting_lists h (waiting_list_of new h) }
  changed = i.txns ∙ ap (λ (x : TxnTable). with_waiting_list x h (waiting_list_of new h)) (cond-false _ _ _ i.fresh)

  items_new : (waiting_list_of new h).items ≡ (waiting_list_of old h).items ++ t ∷ []
  items_new = i.items ∙ cond-false _ _ _ (among_flipped (waiting_list_of old h).items t ∙ i.fresh)

  waits_new : waits_of new t ≡ waits_of old t + 1
  waits_new =
      ap (λ (x : TxnTable). waits_of x t) changed
      ∙ entry_at_set 0 old.waits t (waits_of old t + 1) i.txn.named (let e = i.even.waits in let w = i.txn.within in omega arith)

  pub imposed-frame : new ≡ with_waiting old t new
  imposed-frame =
      changed
      ∙ ap (λ n. record (with_waits old t n) { waiting_lists = set_at old.waiting_lists h (waiting_list_of new h) }) (sym waits_new)
      ∙ ap (λ (ls : List (Entries ℕ)). record (with_waits old t (waits_of new t)) { waiting_lists = ls }) (sym (ap (λ (x : TxnTable). x.waiting_lists) changed))

  pub imposed-waiting : waiting_of new t ≡ waiting_for t (waiting_of old t) h
  imposed-waiting =
      let lists : items_of new.waiting_lists ≡ set_at (items_of old.waiting_lists) h (entry_at [] (items_of old.waiting_lists) h ++ t ∷ []) =
      ap (λ (x : TxnTable). items_of x.waiting_lists) changed
      ∙ items-set old.waiting_lists h (waiting_list_of new h)
      ∙ ap (set_at (items_of old.waiting_lists) h) (items_new ∙ ap (λ xs. xs ++ t ∷ []) (sym (items-entry old.waiting_lists h))) in
      let pair : (ls : List (List ℕ)) (n : ℕ) → Waiting = λ ls n. record { lists = ls; waits = n } in
      ap (λ ls. pair ls (waits_of new t)) lists
      ∙ ap (pair (set_at (items_of old.waiting_lists) h (entry_at [] (items_of old.waiting_lists) h ++ t ∷ []))) waits_new
      ∙ sym (cond-false _ _ _ (ap (λ xs. h == t || is_among xs t) (items-entry old.waiting_lists h) ∙ ap (λ b. b || is_among (waiting_list_of old h).items t) i.other ∙ i.fresh))

  pub imposed-ready : StaysReady old new t
  imposed-ready = record {
    declared = λ x d. record { named = d.named; within = subst (λ (ts : TxnTable). x ≤ length ts.cores) (sym changed) d.within };
    ready = λ x d r. ⊎_elim (λ e. at_holder x e) (λ ne. record { room = subst (λ (es : Entries ℕ). is_among es.items t ≡ false → 0 < es.room) (sym (elsewhere x ne)) r.room }) (cases_eq x h);
    even = λ e. subst IsEven (sym changed) (record {
      waits = length_set_at old.waits t (waits_of old t + 1) ∙ e.waits;
      commit_deps = e.commit_deps;
      read_sets = e.read_sets;
      write_sets = e.write_sets;
      bucket_sets = e.bucket_sets;
      waiting_lists = length_set_at old.waiting_lists h (waiting_list_of new h) ∙ e.waiting_lists;
      dependents = e.dependents;
    });
  }
    where
      elsewhere : (x : ℕ) → (x ≡ h → ⊥) → waiting_list_of new x ≡ waiting_list_of old x
      elsewhere x ne = ap (λ (ts : TxnTable). waiting_list_of ts x) changed ∙ entry_at-other no_entries old.waiting_lists h x (waiting_list_of new h) ne

      at_holder : (x : ℕ) → x ≡ h → IsReady new t x
      at_holder x e =
          let there : is_among (waiting_list_of new h).items t ≡ true = ap (λ xs. is_among xs t) items_new ∙ among-appended (waiting_list_of old h).items t in
          record { room = λ none. absurd (false≢true (sym none ∙ ap (λ n. is_among (waiting_list_of new n).items t) e ∙ there)) }

pub not-true : (b : Bool) → true ≡ not b → b ≡ false
not-true true e = cc
not-true false e = refl

waiting_for-waits : (t : ℕ) (x : Waiting) (h : ℕ) → (waiting_for t x h).waits ≤ x.waits + 1
waiting_for-waits t x h =
    cond_both (h == t || is_among (entry_at [] x.lists h) t) x (record { lists = set_at x.lists h (entry_at [] x.lists h ++ t ∷ []); waits = x.waits + 1 }) (λ (y : Waiting). y.waits ≤ x.waits + 1)
    (λ _. omega arith) (λ _. omega arith)

-- the WaitForCounter of t grows by one at most
pub waits-more : (old new : TxnTable) (t h : ℕ) → waiting_of new t ≡ waiting_for t (waiting_of old t) h → waits_of new t ≤ waits_of old t + 1
waits-more old new t h e = subst (λ (n : ℕ). n ≤ waits_of old t + 1) (sym (ap (λ (x : Waiting). x.waits) e)) (waiting_for-waits t (waiting_of old t) h)

-- two changes of waiting lists and of t's counter are one
pub frame-frame : (first old new : TxnTable) (t : ℕ) → old ≡ with_waiting first t old → new ≡ with_waiting old t new → new ≡ with_waiting first t new
frame-frame first old new t e f =
    f
    ∙ ap (λ (x : TxnTable). with_waiting x t new) e
    ∙ ap (λ (ns : List ℕ). record first { waits = ns; waiting_lists = new.waiting_lists }) (set_at-twice first.waits t (waits_of old t) (waits_of new t))

-- t waits for one more holder, if the holders from it on are left
pub waiting-more : (hs : List ℕ) (i h t : ℕ) (x y z : Waiting) → waiting_for_all t x (drop i hs) ≡ z → i < length hs → h ≡ get_or hs i h → y ≡ waiting_for t x h → waiting_for_all t y (drop (i + 1) hs) ≡ z
waiting-more hs i h t x y z so_far below at next =
    ap (λ v. waiting_for_all t v (drop (i + 1) hs)) (next ∙ ap (waiting_for t x) at) ∙ sym (ap (waiting_for_all t x) (drop_more hs i h below)) ∙ so_far
