-- Steps that follow one another.
use Rattle.std.proofs.Common.{◌≡◌, Ok, Err, Some, None, ◌∙◌, subst}
use Rattle.std.specs.Prelude.{Result}
use Rattle.hek_history_log.specs.Gives.{Gives}
use Rattle.hek_history_log.specs.Kept.{KeepsLabels}
use Rattle.hek_history_log.specs.declared.symbols.Symbols.{Symbols}

pub ok_is : {T E : Type 0} (x y : T) → ◌≡◌ {A = Result T E} (Ok x) (Ok y) → x ≡ y
ok_is x y e = cc

pub ok_or_err : {T E : Type 0} (x : T) (e : E) → ◌≡◌ {A = Result T E} (Ok x) (Err e) → ⊥
ok_or_err x e h = cc

pub keeps-then : {a b c : Symbols} → KeepsLabels a b → KeepsLabels b c → KeepsLabels a c
keeps-then f g = record { keys = g.keys ∙ f.keys; values = g.values ∙ f.values; buckets = g.buckets ∙ f.buckets }

pub some_is : {T : Type 0} (x y : T) → Some x ≡ Some y → x ≡ y
some_is x y e = cc

pub some_or_none : {T : Type 0} (x : T) → Some x ≡ None → ⊥
some_or_none x e = cc

pub gives_ok : {T E : Type 0} (r : Result T E) (lack : E) (P : T → Type 0) (x : T) → Gives r lack P → r ≡ Ok x → P x
gives_ok {T} {E} r lack P x gives is = subst (λ (r : Result T E). Gives r lack P) is gives

pub gives_map : {T E : Type 0} (r : Result T E) (lack : E) (P Q : T → Type 0) → ((x : T) → P x → Q x) → Gives r lack P → Gives r lack Q
gives_map (Ok x) lack P Q then given = then x given
gives_map (Err e) lack P Q then given = given

pub gives_err : {T E : Type 0} (r : Result T E) (lack : E) (P : T → Type 0) (e : E) → Gives r lack P → r ≡ Err e → e ≡ lack
gives_err {T} {E} r lack P e gives is = subst (λ (r : Result T E). Gives r lack P) is gives
