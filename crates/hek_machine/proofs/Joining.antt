-- Room for a version, and for its creator in the waiting lists of those that lock the bucket.
use Rattle.std.proofs.Common.{◌≡◌, ℕ, inl, inr, ◌+◌, ◌<◌, ◌≤◌, Bool, true, false, List, [], ◌∷◌, ◌++◌, refl, ◌∙◌, ap, sym, subst, arith, ⊎_elim, length, take, get_or}
use Rattle.std.proofs.lemmas.List.{take_more}
use Rattle.std.proofs.lemmas.Bool.{eqb-true, cases_Bool, false≢true}
use Rattle.std.specs.Prelude.{slice_index_or, ◌==◌, ◌||◌, ◌⊎◌, Result, Ok, Err, OnOk}
use Rattle.hek_rules.specs.Listing.{is_among}
use Rattle.hek_store.specs.Stored.{Stored}
use Rattle.hek_txn.specs.TxnTable.{TxnTable, waiting_list_of, with_waiting_list, entry_at}
use Rattle.hek_txn.proofs.EntryLemmas.{items-entry}
use Rattle.hek_buckets.specs.LockLists.{holders_of}
use Rattle.hek_buckets.specs.Waited.{IsReady}
use Rattle.hek_machine.specs.declared.engine.Engine.{Engine}
use Rattle.hek_machine.specs.Room.{Reserved, CanMake, KeepsAdding, AreJoined}
use Rattle.hek_machine.proofs.Reserves.{reserved_more, reserved_waiters, items-index}

pub wait-kept : (m n : Engine) (t h : ℕ) → Reserved m n → IsReady m.txns t h → IsReady n.txns t h
wait-kept m n t h r k = record {
  room = λ no.
      let same : (waiting_list_of n.txns h).items ≡ (waiting_list_of m.txns h).items = sym (items-entry n.txns.waiting_lists h) ∙ ap (λ xs. entry_at [] xs h) r.txns.waiting_lists ∙ items-entry m.txns.waiting_lists h in
      let old = k.room (ap (λ xs. is_among xs t) (sym same) ∙ no) in let more = r.more_waiters h in omega (arith, old, more);
}

among-last : (xs : List ℕ) (n h : ℕ) → is_among (xs ++ n ∷ []) h ≡ true → (is_among xs h ≡ true) ⊎ (h ≡ n)
among-last [] n h e = ⊎_elim (λ same. inr (sym (eqb-true n h same))) (λ other. absurd (false≢true (sym other ∙ alone (n == h) e))) (cases_Bool (n == h))
  where
    alone : (b : Bool) → (b || false) ≡ true → b ≡ true
    alone true z = refl
    alone false z = z
among-last (y ∷ ys) n h e =
    ⊎_elim (λ here. inl (ap (λ b. b || is_among ys h) here))
    (λ other. ⊎_elim (λ k. inl (ap (λ b. b || is_among ys h) other ∙ k)) (λ k. inr k) (among-last ys n h (sym (ap (λ b. b || is_among (ys ++ n ∷ []) h) other) ∙ e))) (cases_Bool (y == h))

pub holders-same : (m n : Engine) (b : ℕ) → Reserved m n → (holders_of n.buckets b).items ≡ (holders_of m.buckets b).items
holders-same m n b r = sym (items-index n.buckets b) ∙ ap (λ xs. slice_index_or xs b []) r.holders ∙ items-index m.buckets b

-- the waiting list of one more holder has room
pub joined_more : (first m : Engine) (t i h : ℕ) (holders : List ℕ) (x : TxnTable) → i < length holders → h ≡ get_or holders i h →
    x ≡ with_waiting_list m.txns h (waiting_list_of x h) → (waiting_list_of x h).items ≡ (waiting_list_of m.txns h).items → (waiting_list_of m.txns h).room ≤ (waiting_list_of x h).room →
    1 ≤ (waiting_list_of x h).room → AreJoined m t (take i holders) → AreJoined (record m { txns = x }) t (take (i + 1) holders)
joined_more first m t i h holders x below at is items more some j u a =
    ⊎_elim (λ old. wait-kept m (record m { txns = x }) t u (reserved_waiters m h x is items more) (j u old))
    (λ same. subst (λ g. IsReady x t g) (sym (same ∙ sym at)) (record { room = λ no. omega (arith, some) }))
    (among-last (take i holders) (get_or holders i h) u (sym (ap (λ xs. is_among xs u) (take_more holders i h below)) ∙ a))

pub step_reserved : (first m : Engine) (h : ℕ) (x : TxnTable) → Reserved first m → x ≡ with_waiting_list m.txns h (waiting_list_of x h) →
    (waiting_list_of x h).items ≡ (waiting_list_of m.txns h).items → (waiting_list_of m.txns h).room ≤ (waiting_list_of x h).room → Reserved first (record m { txns = x })
step_reserved first m h x r is items more = reserved_more first m (record m { txns = x }) r (reserved_waiters m h x is items more)

-- reserving room keeps what making a version needs
pub reserved_kept : (m n : Engine) (t : ℕ) → Reserved m n → KeepsAdding m n t
reserved_kept m n t r = record {
  versions = r.more_versions;
  joins = λ h ne k. wait-kept m n t h r k;
  holders = λ b h k. inl (ap (λ xs. is_among xs h) (sym (holders-same m n b r)) ∙ k);
}

pub can_make_kept : (m n : Engine) (t b : ℕ) → KeepsAdding m n t → CanMake m t b → CanMake n t b
can_make_kept m n t b k c = record {
  version = let a = k.versions in let v = c.version in omega (arith, a, v);
  joins = λ h ne a. ⊎_elim (λ old. k.joins h ne (c.joins h ne old)) (λ same. absurd (ne same)) (k.holders b h a);
}

pub can_make_now : (m n : Engine) (t bucket : ℕ) (s : Stored) (holders : List ℕ) → 0 < s.room → Reserved (record m { store = s }) n → holders ≡ (holders_of m.buckets bucket).items →
    AreJoined n t holders → CanMake n t bucket
can_make_now m n t bucket s holders some r is joined = record {
  version = let more = r.more_versions in omega (arith, some, more);
  joins = λ h ne a. joined h (ap (λ xs. is_among xs h) (is ∙ sym (holders-same (record m { store = s }) n bucket r)) ∙ a);
}

pub on_ok : {A E : Type 0} (r : Result A E) (P Q : Type 0) → (P → Q) → OnOk r P → OnOk r Q
on_ok (Ok x) P Q h p = h p
on_ok (Err e) P Q h p = tt
