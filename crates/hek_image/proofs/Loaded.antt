-- What is certain of a source's bytes once all but their end is read is what loading them gives.
use Rattle.std.proofs.Common.{◌≡◌, ℕ, ◌<◌, false, List, [], ◌++◌, length, Result, Ok, Err, refl, sym, ap, subst, ◌∙◌, arith, inl, inr, ◌⊎◌}
use Rattle.std.specs.Prelude.{◌==◌}
use Rattle.std.proofs.lemmas.Bool.{ne_eqb}
use Rattle.std.proofs.lemmas.List.{append-nil}
use Rattle.hek_rules.specs.Plan.{Plan}
use Rattle.hek_image.specs.declared.fault.LoadFault.{LoadFault}
use Rattle.hek_image.specs.declared.fault.LoadFault.TheVariants as load
use Rattle.hek_image.specs.Gives.{LoadFails, LoadGives, IsOpen, given_between}
use Rattle.hek_image.specs.Loading.{Place, Header, header_at, plan_at, ended, loading}
use Rattle.hek_image.specs.Taking.{FaultHolds, Takes, body_at}
use Rattle.hek_image.proofs.Taken.{gave}
use Rattle.hek_image.proofs.Readers.{here}
use Rattle.hek_image.proofs.Whole.{given_is}
use Rattle.hek_image.proofs.Takings.{then_fault, then_takes}

of_text : (whole text rest : List ℕ) (r : Result (Plan × Place) LoadFault) → whole ≡ text ++ rest → plan_at (here 0 (text ++ rest)) ≡ r → loading whole ≡ ended r
unfolding loading
of_text whole text rest r parts h = ap (λ (bs : List ℕ). ended (plan_at (here 0 bs))) parts ∙ ap ended h

text_is : (text : List ℕ) (r : Result (Plan × Place) LoadFault) → plan_at (here 0 text) ≡ r → loading text ≡ ended r
unfolding loading
text_is text r h = ap ended h

fault_holds : (e : LoadFault) (whole text rest : List ℕ) → whole ≡ text ++ rest → FaultHolds e plan_at 0 text rest → LoadFails e (loading whole)
fault_holds load.NoMemory whole text rest parts h = tt
fault_holds load.Read whole text rest parts h = tt
fault_holds load.Short whole text rest parts h = whole_is ∙ text_is text (Err load.Short) h.0
  where
    whole_is : loading whole ≡ loading text
    whole_is = ap loading (parts ∙ ap (λ (bs : List ℕ). text ++ bs) h.1 ∙ append-nil text)
fault_holds load.BadMagic whole text rest parts h = of_text whole text rest (Err load.BadMagic) parts (h rest)
fault_holds load.BadVersion whole text rest parts h = of_text whole text rest (Err load.BadVersion) parts (h rest)
fault_holds (load.BadField n) whole text rest parts h = of_text whole text rest (Err (load.BadField n)) parts (h rest)
fault_holds load.Trailing whole text rest parts h = of_text whole text rest (Err load.Trailing) parts (h rest)

module _ {X : Type 0} (view : X → Plan × ℕ) (size : ℕ) (whole rest : List ℕ) where
  -- a fault within the fields
  pub fault_loads : {Y : Type 0} (see : Y → Plan) (e : LoadFault) (result : Result Y LoadFault) → result ≡ Err e → Takes view plan_at 0 size (Err e) whole rest → LoadGives see result (loading whole)
  fault_loads {Y = Y} see e result is t = subst (λ (s : Result Y LoadFault). LoadGives see s (loading whole)) (sym is) (fault_holds e whole t.text rest t.parts t.holds)

  -- the source failed within the fields
  pub fault_is_open : (e : LoadFault) → e ≡ load.Read → Takes view plan_at 0 size (Err e) whole rest → IsOpen (loading (given_between whole rest))
  fault_is_open e is t =
      let ends : FaultHolds load.Read plan_at 0 t.text rest = subst (λ (d : LoadFault). FaultHolds d plan_at 0 t.text rest) is t.holds in
      subst (λ (bs : List ℕ). IsOpen (loading bs)) (sym (given_is whole t.text rest t.parts)) (subst IsOpen (sym (text_is t.text (Err load.Short) ends)) tt)

  module _ (x : X) (t : Takes view plan_at 0 size (Ok x) whole rest) where
    all_read : loading t.text ≡ Ok (view x).0
    all_read = ap loading (sym (append-nil t.text)) ∙ text_is (t.text ++ []) (gave (view x).0 (here (view x).1 [])) (t.holds [])

    -- no byte follows the fields
    pub loads : rest ≡ [] → loading whole ≡ Ok (view x).0
    loads none = ap loading (t.parts ∙ ap (λ (bs : List ℕ). t.text ++ bs) none ∙ append-nil t.text) ∙ all_read

    -- a byte follows the fields
    pub trails : 0 < length rest → loading whole ≡ Err load.Trailing
    trails some =
        let more : (length rest == 0) ≡ false = ne_eqb (length rest) 0 (λ h. absurd (omega (arith, h, some))) in
        let end : ended (gave (view x).0 (here (view x).1 rest)) ≡ Err load.Trailing = rw more refl in
        of_text whole t.text rest (gave (view x).0 (here (view x).1 rest)) t.parts (t.holds rest) ∙ end

    -- the source failed after the fields, where the end was looked for
    pub is_open : IsOpen (loading (given_between whole rest))
    is_open = subst (λ (bs : List ℕ). IsOpen (loading bs)) (sym (given_is whole t.text rest t.parts)) (subst IsOpen (sym all_read) tt)

    -- a fault at the end: a byte follows, or the source failed
    pub end_loads : {Y : Type 0} (see : Y → Plan) (e : LoadFault) (result : Result Y LoadFault) → result ≡ Err e → (e ≡ load.Trailing) ⊎ (e ≡ load.Read) → (e ≡ load.Trailing → 0 < length rest) → LoadGives see result (loading whole)
    end_loads {Y = Y} see e result is which some = elim which [
      | inl trailing ↦
          let given : LoadFails load.Trailing (loading whole) = trails (some trailing) in
          subst (λ (s : Result Y LoadFault). LoadGives see s (loading whole)) (sym (is ∙ ap (λ (d : LoadFault). Err d) trailing)) given
      | inr read ↦ subst (λ (s : Result Y LoadFault). LoadGives see s (loading whole)) (sym (is ∙ ap (λ (d : LoadFault). Err d) read)) tt
    ]

-- ---- header and body
pub header_fault : {X : Type 0} (head : X → (Plan × Header) × ℕ) (e : LoadFault) (whole rest : List ℕ) → Takes head header_at 0 22 (Err e) whole rest → Takes (λ (x : Plan × ℕ). x) plan_at 0 22083414 (Err e) whole rest
unfolding plan_at
header_fault head e whole rest t = then_fault head (λ (x : Plan × ℕ). x) header_at _ 0 22 22083414 e (Err e) whole rest (omega arith) refl t

pub body_taken : {X Y : Type 0} (head : X → (Plan × Header) × ℕ) (view : Y → Plan × ℕ) (x : X) (result : Result Y LoadFault) (whole mid rest : List ℕ) → (head x).1 ≡ 22 → Takes head header_at 0 22 (Ok x) whole mid → Takes view (body_at (head x).0) 22 22083392 result mid rest → Takes view plan_at 0 22083414 result whole rest
unfolding plan_at
body_taken head view x result whole mid rest place one two = then_takes head view header_at _ (body_at (head x).0) 0 22 22 22083392 22083414 x result whole mid rest (omega arith) place refl one two
