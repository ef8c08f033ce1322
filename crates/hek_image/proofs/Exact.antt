-- Readers that take an exact number of bytes.
use Rattle.std.proofs.Common.{◌≡◌, ℕ, ◌+◌, Bool, length, take, drop, Err, refl, sym, ap, ◌∙◌, arith, inl, inr, length-drop}
use Rattle.std.specs.Int.{Width, w8, w16, w32, w64, byte_len, from_be_bytes}
use Rattle.std.proofs.lemmas.Bool.{cases_lt, lt-ltb, le-ltb}
use Rattle.hek_rules.specs.declared.event.Level.{Level}
use Rattle.hek_rules.specs.Plan.{Plan}
use Rattle.hek_image.specs.declared.fault.LoadFault.{LoadFault}
use Rattle.hek_image.specs.declared.fault.LoadFault.TheVariants.{Short}
use Rattle.hek_image.specs.declared.item.Item.{Item}
use Rattle.hek_image.specs.declared.item.Item.TheVariants as item
use Rattle.hek_image.specs.Loading.{Place, Reader, both, required, checked_read, bytes_at, value, number_at, number_within, row_at, kind_at, step_at, magic_at, image_version, header_at}
use Rattle.hek_image.specs.Taking.{named_txn_at, item_at, item_size, ItemsFit, HasGrown}
use Rattle.hek_image.proofs.Steady.{IsSteady, Any, wider, bytes_steady, value_steady, both_steady, checked_steady}
use Rattle.hek_image.proofs.Taken.{gave, gave_is, both_ok, checked_ok, required_ok}
use Rattle.hek_image.proofs.Whole.{row_steady, step_steady}

pub record IsExact {A : Type 0} (n : ℕ) (r : Reader A) : Type 0 where
  pub exact : (p : Place) (x : A) (q : Place) → r p ≡ gave x q → (length p.rest ≡ n + length q.rest) × (q.at ≡ p.at + n)

bytes_exact : (n : ℕ) → IsExact n (bytes_at n)
unfolding bytes_at
bytes_exact n = record {
  exact = λ p w q e. elim (cases_lt (length p.rest) n) [
    | inl lt ↦
        let short : bytes_at n p ≡ Err Short = rw (lt-ltb (length p.rest) n lt) refl in
        absurd cc
    | inr le ↦
        let m : Place = record { at = p.at + n; rest = drop n p.rest } in
        let is : bytes_at n p ≡ gave (take n p.rest) m = rw (le-ltb (length p.rest) n le) refl in
        let same : m ≡ q = (gave_is (take n p.rest) w m q (sym is ∙ e)).1 in
        let size : length p.rest ≡ n + length m.rest = omega (arith, length-drop n p.rest) in
        (size ∙ ap (λ (z : Place). n + length z.rest) same, sym (ap (λ (z : Place). z.at) same))
  ];
}

value_exact : {A : Type 0} (x : A) → IsExact 0 (value x)
value_exact {A = A} x = record {
  exact = λ p y q e.
      let same : p ≡ q = (gave_is x y p q e).1 in
      let len : length p.rest ≡ length q.rest = ap (λ (z : Place). length z.rest) same in
      let at : p.at ≡ q.at = ap (λ (z : Place). z.at) same in
      (omega (arith, len), omega (arith, at));
}

both_exact : {A B : Type 0} (m n : ℕ) (r : Reader A) (f : A → Reader B) → IsExact m r → ((x : A) → IsExact n (f x)) → IsExact (m + n) (both r f)
both_exact m n r f h k = record {
  exact = λ p y q e.
      let b = both_ok r f p y q e in
      let one = h.exact p b.0 b.1 b.2 in
      let two = (k b.0).exact b.1 y q b.3 in
      (omega (arith, one, two), omega (arith, one, two));
}

checked_exact : {A : Type 0} (n : ℕ) (r : Reader A) (test : A → Bool) → IsExact n r → IsExact n (checked_read r test)
checked_exact n r test h = record { exact = λ p x q e. h.exact p x q (checked_ok r test p x q e).0 }

required_exact : {A : Type 0} (n : ℕ) (r : Reader A) (test : A → Bool) (fault : LoadFault) → IsExact n r → IsExact n (required r test fault)
required_exact n r test fault h = record { exact = λ p x q e. h.exact p x q (required_ok r test fault p x q e).0 }

number_exact : (w : Width) → IsExact (byte_len w + 0) (number_at w)
unfolding number_at
number_exact w = both_exact (byte_len w) 0 (bytes_at (byte_len w)) _ (bytes_exact (byte_len w)) (λ bytes. value_exact (from_be_bytes w bytes))

pub within_exact : (low high : ℕ) (w : Width) → IsExact (byte_len w + 0) (number_within low high w)
unfolding number_within
within_exact low high w = checked_exact (byte_len w + 0) (number_at w) _ (number_exact w)

row_exact : (plan : Plan) → IsExact 16 (row_at plan)
unfolding row_at
row_exact plan = both_exact 8 8 _ _ (checked_exact 8 (number_at w64) _ (number_exact w64)) (λ key. both_exact 8 0 _ _ (number_exact w64) (λ v. value_exact _))

name_exact : (level : Level) (len : ℕ) (plan : Plan) → IsExact (len + 0) (named_txn_at level len plan)
name_exact level len plan = both_exact len 0 _ _ (checked_exact len (bytes_at len) _ (bytes_exact len)) (λ name. value_exact _)

kind_exact : IsExact 1 kind_at
unfolding kind_at
kind_exact = both_exact 1 0 _ _ (checked_exact 1 (number_at w8) _ (number_exact w8)) (λ n. value_exact _)

step_exact : (plan : Plan) → IsExact 21 (step_at plan)
unfolding step_at
step_exact plan = both_exact 1 20 _ _ kind_exact (λ k.
    both_exact 4 16 _ _ (checked_exact 4 (number_at w32) _ (number_exact w32)) (λ t.
    both_exact 8 8 _ _ (checked_exact 8 (number_at w64) _ (number_exact w64)) (λ a.
    both_exact 8 0 _ _ (checked_exact 8 (number_at w64) _ (number_exact w64)) (λ b. value_exact _))))

magic_exact : IsExact 4 magic_at
unfolding magic_at
magic_exact = required_exact 4 (bytes_at 4) _ _ (bytes_exact 4)

version_exact : IsExact 2 image_version
unfolding image_version
version_exact = required_exact 2 (number_at w16) _ _ (number_exact w16)

pub header_exact : IsExact 22 header_at
unfolding header_at
header_exact = both_exact 4 18 _ _ magic_exact (λ m.
    both_exact 2 16 _ _ version_exact (λ v.
    both_exact 4 12 _ _ (within_exact 1 1024 w32) (λ buckets.
    both_exact 4 8 _ _ (within_exact 0 65536 w32) (λ rows.
    both_exact 4 4 _ _ (within_exact 0 1024 w32) (λ txns.
    both_exact 4 0 _ _ (within_exact 0 1000000 w32) (λ steps. value_exact _))))))

-- ---- items
same_exact : {A : Type 0} (m n : ℕ) (r : Reader A) → m ≡ n → IsExact m r → IsExact n r
same_exact m n r e h = record { exact = λ p x q g. let it = h.exact p x q g in (omega (arith, it, e), omega (arith, it, e)) }

pub item_exact : (i : Item) (plan : Plan) → IsExact (item_size i) (item_at i plan)
item_exact item.Row plan = row_exact plan
item_exact (item.Name level len) plan = same_exact (len + 0) len (named_txn_at level len plan) (omega arith) (name_exact level len plan)
item_exact item.Step plan = step_exact plan

name_steady : (level : Level) (len : ℕ) (plan : Plan) → IsSteady Any (len + 0) (named_txn_at level len plan)
name_steady level len plan = both_steady Any Any len 0 _ _ (checked_steady Any Any len _ _ (λ w any e. tt) (bytes_steady len)) (λ name any. value_steady Any _ tt)

pub item_steady : (i : Item) (plan : Plan) → IsSteady Any (item_size i) (item_at i plan)
item_steady item.Row plan = row_steady plan
item_steady (item.Name level len) plan = wider Any (len + 0) len (named_txn_at level len plan) (omega arith) (name_steady level len plan)
item_steady item.Step plan = step_steady plan

pub others_fit : (i : Item) (m n : ℕ) (plan after : Plan) → m ≡ n + 1 → ItemsFit i m plan → HasGrown i 1 plan after → ItemsFit i n after
others_fit item.Row m n plan after e h k = omega (arith, h, k.0)
others_fit (item.Name level len) m n plan after e h k = omega (arith, h, k.1)
others_fit item.Step m n plan after e h k = omega (arith, h, k.2)

pub one_more_grown : (i : Item) (n : ℕ) (first plan after : Plan) → HasGrown i n first plan → HasGrown i 1 plan after → HasGrown i (n + 1) first after
one_more_grown item.Row n first plan after h k = (omega (arith, h.0, k.0), omega (arith, h.1, k.1), omega (arith, h.2, k.2))
one_more_grown (item.Name level len) n first plan after h k = (omega (arith, h.0, k.0), omega (arith, h.1, k.1), omega (arith, h.2, k.2))
one_more_grown item.Step n first plan after h k = (omega (arith, h.0, k.0), omega (arith, h.1, k.1), omega (arith, h.2, k.2))
