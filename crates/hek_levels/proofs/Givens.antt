-- Sources that are given of keys that scans miss.
use Rattle.std.proofs.Common.{◌≡◌, ◌==◌, ℕ, zero, suc, List, [], ◌∷◌, Option, Some, None, refl, inl, inr}
use Rattle.std.specs.Prelude.{slice_get, ◌&&◌}
use Rattle.std.proofs.lemmas.Bool.{cases_Bool, eqb-true}
use Rattle.hek_levels.specs.declared.certificate.Missing.{Missing as Given}
use Rattle.hek_levels.specs.declared.certificate.Writer.{Writer}
use Rattle.hek_levels.specs.Explanations.{given_at}
use Rattle.hek_levels.proofs.Turned.{both-true}

-- who is given of a scan and a key stands in the list
pub given-at : (list : List Given) (s k : ℕ) (w : Writer) → given_at list s k ≡ Some w →
    (n : ℕ) × (one : Given) × (slice_get list n ≡ Some one) × (one.scan ≡ s) × (one.key ≡ k) × (one.writer ≡ w)
given-at [] s k w e = cc
given-at (g ∷ gs) s k w e =
    elim (cases_Bool ((g.scan == s) && (g.key == k))) [
      | inl same ↦
          let both = both-true (g.scan == s) (g.key == k) same in
          let is : Some g.writer ≡ Some w = rw same at e in
          (zero, g, refl, eqb-true g.scan s both.0, eqb-true g.key k both.1, cc)
      | inr other ↦ let r = given-at gs s k w (rw other at e) in (suc r.0, r.1, r.2, r.3, r.4, r.5)
    ]

-- the first of two, or else the second
abbrev pub given_else : Option Writer → Option Writer → Option Writer
given_else None b = b
given_else (Some a) b = Some a
