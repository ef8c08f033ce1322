-- A `BTreeMap` of numbers puts an entry as `put` says.
use Rattle.std.proofs.Common.{◌≡◌, ℕ, Bool, true, false, List, [], ◌∷◌, refl, ◌∙◌, ap, sym}
use Rattle.std.proofs.lemmas.Bool.{eqb-true}
use Rattle.std.specs.Prelude.{◌==◌, nat_lt, if◌then◌else◌}
use Rattle.std.specs.declared.cmp.Ordering.TheVariants.{Less, Equal, Greater}
use Rattle.std.specs.Ordering.{nat_cmp, match_ordering}
use Rattle.std.specs.BTreeMap.{insert_entry}
use Rattle.hek_rules.specs.Listing.{put}

by_order : {X : Type 0} (b d : Bool) (x y z : X) → match_ordering (if b then Less else (if d then Equal else Greater)) x y z ≡ (if b then x else if d then y else z)
by_order true d x y z = refl
by_order false true x y z = refl
by_order false false x y z = refl

same_if : {X : Type 0} (b : Bool) (x y z : X) → (b ≡ true → x ≡ y) → (if b then x else z) ≡ (if b then y else z)
same_if true x y z h = h refl
same_if false x y z h = refl

pub insert-put : (es : List (ℕ × ℕ)) (k v : ℕ) → insert_entry nat_cmp es k v ≡ put k v es
insert-put [] k v = refl
insert-put (e ∷ es) k v =
    by_order (nat_lt k e.0) (k == e.0) ((k, v) ∷ e ∷ es) ((e.0, v) ∷ es) (e ∷ insert_entry nat_cmp es k v)
    ∙ ap (λ (zs : List (ℕ × ℕ)). if nat_lt k e.0 then (k, v) ∷ e ∷ es else zs)
    (same_if (k == e.0) ((e.0, v) ∷ es) ((k, v) ∷ es) (e ∷ insert_entry nat_cmp es k v) (λ h. ap (λ n. (n, v) ∷ es) (sym (eqb-true _ _ h)))
    ∙ ap (λ zs. if k == e.0 then (k, v) ∷ es else e ∷ zs) (insert-put es k v))
