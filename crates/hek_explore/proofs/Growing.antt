-- What classes become by one more move, one after another.
use Rattle.std.proofs.Common.{◌≡◌, ℕ, zero, suc, ◌+◌, ◌<◌, List, [], ◌∷◌, ◌++◌, length, refl, ap, sym, subst, ◌∙◌, arith, Option, Some, None, inl, inr}
use Rattle.std.proofs.lemmas.List.{append_assoc, append-nil, length-append}
use Rattle.std.specs.Prelude.{◌⊎◌, slice_get}
use Rattle.hek_rules.specs.Plan.{Plan}
use Rattle.hek_permute.specs.declared.moves.Form.{Form}
use Rattle.hek_permute.specs.Moves.{Work}
use Rattle.hek_explore.specs.Counts.{AreAllGrown, AreGrown, Group, IsGrownAt}
use Rattle.hek_explore.specs.Deals.{AreExtended, IsExtendedBy}

module _ (p : Plan) (form : Form) (works : List Work) where
  -- ---- the places of one class
  -- what the transactions at the first places lead to
  pub record AreFirst (g : Group) (place : ℕ) (grown : List (Option Group)) : Type 0 where
    pub long : length grown ≡ place
    pub each : (i : ℕ) (found : Option Group) → slice_get grown i ≡ Some found → IsGrownAt p form works g i found

  pub first-none : (g : Group) (grown : List (Option Group)) → grown ≡ [] → AreFirst g 0 grown
  first-none g grown none = record { long = ap (λ (l : List (Option Group)). length l) none; each = λ i found at. absurd (cc) }

  last-is : (xs : List (Option Group)) (x found : Option Group) (i : ℕ) → slice_get (xs ++ x ∷ []) i ≡ Some found → ((slice_get xs i ≡ Some found) ⊎ ((i ≡ length xs) × (x ≡ found)))
  last-is [] x found zero at = inr (refl, cc)
  last-is [] x found (suc i) at = absurd cc
  last-is (y ∷ ys) x found zero at = inl at
  last-is (y ∷ ys) x found (suc i) at = elim (last-is ys x found i at) [ inl a ↦ inl a | inr b ↦ inr (omega (arith, b.0), b.1) ]

  pub first-more : (g : Group) (place : ℕ) (grown more : List (Option Group)) (found : Option Group) → more ≡ grown ++ found ∷ [] → IsGrownAt p form works g place found → AreFirst g place grown
      → AreFirst g (place + 1) more
  first-more g place grown more found is here was = record {
    long = omega (arith, ap (λ (l : List (Option Group)). length l) is, length-append grown (found ∷ []), was.long);
    each = λ i other at. elim (last-is grown found other i (sym (ap (λ (l : List (Option Group)). slice_get l i) is) ∙ at)) [
      | inl a ↦ was.each i other a
      | inr b ↦ subst (λ (n : ℕ). IsGrownAt p form works g n other) (sym (b.0 ∙ was.long)) (subst (λ (o : Option Group). IsGrownAt p form works g place o) b.1 here)
    ];
  }

  pub first-all : (g : Group) (place : ℕ) (grown : List (Option Group)) → place ≡ length g.left → AreFirst g place grown → AreGrown p form works g grown
  first-all g place grown over was = record { long = was.long ∙ over; each = was.each }

  -- ---- one class after another
  pub all-append : (gs hs : List Group) (xs ys : List (List (Option Group))) → AreAllGrown p form works gs xs → AreAllGrown p form works hs ys → AreAllGrown p form works (gs ++ hs) (xs ++ ys)
  all-append [] hs [] ys a b = b
  all-append [] hs (x ∷ xs) ys a b = absurd a
  all-append (g ∷ gs) hs [] ys a b = absurd a
  all-append (g ∷ gs) hs (x ∷ xs) ys a b = (a.0, all-append gs hs xs ys a.1 b)

  -- classes that were put among others, up to some of them
  abbrev pub IsPutTo : List Group → List Group → List Group → List (List (Option Group)) → List Group → Type 0
  IsPutTo groups old rest all next =
      AreAllGrown p form works rest all × ((new : List Group) → AreExtended p form works rest next new → AreExtended p form works groups old new)

  pub put-first : (groups old : List Group) (all : List (List (Option Group))) → AreAllGrown p form works groups all → IsPutTo groups old groups all old
  put-first groups old all are = (are, λ new each. each)

  pub put-more : (groups old : List Group) (g : Group) (rest later : List Group) (all : List (List (Option Group))) (grown : List (Option Group)) (others : List (List (Option Group))) (next more : List Group)
      → rest ≡ g ∷ later → all ≡ grown ∷ others → IsExtendedBy g grown next more → IsPutTo groups old rest all next → IsPutTo groups old later others more
  put-more groups old g rest later all grown others next more is front extended was =
      let both : AreAllGrown p form works (g ∷ later) (grown ∷ others) =
      subst (λ (l : List (List (Option Group))). AreAllGrown p form works (g ∷ later) l) front (subst (λ (l : List Group). AreAllGrown p form works l all) is was.0) in (
        both.1,
        λ new each. was.1 new (subst (λ (l : List Group). AreExtended p form works l next new) (sym is) (more, extended p form works both.0, each)),
      )

  pub put-last : (groups old rest next : List Group) (all : List (List (Option Group))) → rest ≡ [] → IsPutTo groups old rest all next → AreExtended p form works groups old next
  put-last groups old rest next all none was = was.1 next (subst (λ (l : List Group). AreExtended p form works l next next) (sym none) refl)

  -- classes that have grown, up to some of them
  abbrev pub IsGrownTo : List Group → List Group → List (List (Option Group)) → Type 0
  IsGrownTo groups rest all = (more : List (List (Option Group))) → AreAllGrown p form works rest more → AreAllGrown p form works groups (all ++ more)

  pub grown-first : (groups rest : List Group) (all : List (List (Option Group))) → rest ≡ groups → all ≡ [] → IsGrownTo groups rest all
  grown-first groups rest all is none more are =
      subst (λ (l : List (List (Option Group))). AreAllGrown p form works groups (l ++ more)) (sym none) (subst (λ (l : List Group). AreAllGrown p form works l more) is are)

  pub grown-more : (groups : List Group) (g : Group) (rest later : List Group) (all longer : List (List (Option Group))) (grown : List (Option Group)) → rest ≡ g ∷ later → longer ≡ all ++ grown ∷ [] → AreGrown p form works g grown
      → IsGrownTo groups rest all → IsGrownTo groups later longer
  grown-more groups g rest later all longer grown is pushed here was more are =
      subst (λ (l : List (List (Option Group))). AreAllGrown p form works groups l) (sym (ap (λ (l : List (List (Option Group))). l ++ more) pushed ∙ append_assoc all (grown ∷ []) more))
      (was (grown ∷ more) (subst (λ (l : List Group). AreAllGrown p form works l (grown ∷ more)) (sym is) (here, are)))

  pub grown-last : (groups rest : List Group) (all : List (List (Option Group))) → rest ≡ [] → IsGrownTo groups rest all → AreAllGrown p form works groups all
  grown-last groups rest all none was =
      subst (λ (l : List (List (Option Group))). AreAllGrown p form works groups l) (append-nil all) (was [] (subst (λ (l : List Group). AreAllGrown p form works l []) (sym none) tt))
