-- What the readers of a JSON value give at a printed number.
use Rattle.std.proofs.Common.{◌≡◌, ◌<◌, ◌^◌, ℕ, ℤ, pos, List, [], ◌∷◌, Option, Some, None, Ok, MatchOption, option_map, map, length, get_or, sym, ap, subst, refl, arith, ◌∙◌, decimal}
use Rattle.std.specs.Prelude.{ok_or, Result}
use Rattle.std.specs.Str.Parse.{ParsesUnsigned, ParsesSigned}
use Rattle.std.specs.Int.{w64}
use Rattle.std.specs.Prelude.{FitsSigned}
use Rattle.std.proofs.lemmas.Int.{ints}
use Rattle.std.specs.Borrow.{Bor}
use Rattle.std.proofs.lemmas.List.{length-map, get_or-map}
use Rattle.std.proofs.lemmas.Fmt.{parse-decimal, parse-signed_decimal}
use Rattle.json.specs.Json.{Json}
use Rattle.json.specs.Find.{as_number, as_array}
use Rattle.json.specs.Value.{items_of, value_view, items_view}
use Rattle.json.specs.declared.value.Value.{Value}
use Rattle.hek_history_log.specs.LogText.{number_json, array_json}

some_of : {E : Type 0} (r : Option ℕ) (e : E) (n : ℕ) → ok_or r e ≡ Ok n → r ≡ Some n
some_of None e n h = cc
some_of (Some x) e n h = cc

pub as_u64-number_json : (j : Json) (r : Option ℕ) (n : ℕ) → n < 2 ^ 64 → j ≡ number_json n → MatchOption (as_number j) (r ≡ None) (λ s. ParsesUnsigned 64 10 s (ok_or r s)) → r ≡ Some n
as_u64-number_json j r n small is parses =
    let at = subst (λ (j : Json). MatchOption (as_number j) (r ≡ None) (λ s. ParsesUnsigned 64 10 s (ok_or r s))) is parses in
    some_of r (decimal n) n (parse-decimal 64 n (decimal n) (ok_or r (decimal n)) small small refl at)

some_of_signed : {E : Type 0} (r : Option ℤ) (e : E) (z : ℤ) → ok_or r e ≡ Ok z → r ≡ Some z
some_of_signed None e z h = cc
some_of_signed (Some x) e z h = cc

pub as_i64-number_json : (j : Json) (r : Option ℤ) (n : ℕ) → n < 2 ^ 63 → j ≡ number_json n → MatchOption (as_number j) (r ≡ None) (λ s. ParsesSigned w64 10 s (ok_or r s)) → r ≡ Some (pos n)
as_i64-number_json j r n small is parses =
    let at = subst (λ (j : Json). MatchOption (as_number j) (r ≡ None) (λ s. ParsesSigned w64 10 s (ok_or r s))) is parses in
    let fits : FitsSigned w64 (pos n) = omega (arith, ints) in
    some_of_signed r (decimal n) (pos n) (parse-signed_decimal w64 (pos n) (decimal n) (ok_or r (decimal n)) fits small refl at)

pub items_of-injective : (xs ys : List Json) → items_of xs ≡ items_of ys → xs ≡ ys
items_of-injective [] [] e = refl
items_of-injective [] (y ∷ ys) e = cc
items_of-injective (x ∷ xs) [] e = cc
items_of-injective (x ∷ xs) (y ∷ ys) e =
    let rest : items_of xs ≡ items_of ys = cc in
    let more = items_of-injective xs ys rest in
    cc

-- the items of a value that is an array
pub array_items : {A : Type 0} (r : Option (Bor (List (Value A)))) (b : Bor (List (Value A))) (j : Json) (js : List Json) → option_map (λ items. items_view items.now) r ≡ as_array j → j ≡ array_json js → r ≡ Some b
    → map value_view b.now ≡ js
array_items {A} r b j js view is some =
    let given : Some (items_view b.now) ≡ as_array j = subst (λ (r : Option (Bor (List (Value A)))). option_map (λ items. items_view items.now) r ≡ as_array j) some view in
    let wanted : as_array j ≡ Some (items_of js) = ap as_array is in
    let same : items_view b.now ≡ items_of js = cc in
    items_of-injective (map value_view b.now) js same

pub array_is : {A : Type 0} (r : Option (Bor (List (Value A)))) (j : Json) (js : List Json) → option_map (λ items. items_view items.now) r ≡ as_array j → j ≡ array_json js → r ≡ None → ⊥
array_is {A} r j js view is none =
    let given : None ≡ as_array j = subst (λ (r : Option (Bor (List (Value A)))). option_map (λ items. items_view items.now) r ≡ as_array j) none view in
    let wanted : as_array j ≡ Some (items_of js) = ap as_array is in
    cc

pub array_length : {A : Type 0} (r : Option (Bor (List (Value A)))) (b : Bor (List (Value A))) (j : Json) (js : List Json) → option_map (λ items. items_view items.now) r ≡ as_array j → j ≡ array_json js → r ≡ Some b
    → length b.now ≡ length js
array_length {A} r b j js view is some =
    let e = array_items r b j js view is some in
    sym (length-map b.now value_view) ∙ ap length e

-- the value at a place of values that were printed
pub item_at : {A X : Type 0} (f : X → Json) (vs : List (Value A)) (xs : List X) (i : ℕ) (d : Value A) (e : X) → map value_view vs ≡ map f xs → i < length vs
    → (i < length xs) × (value_view (get_or vs i d) ≡ f (get_or xs i e))
item_at {A} {X} f vs xs i d e same within =
    let count : length vs ≡ length xs = sym (length-map vs value_view) ∙ ap length same ∙ length-map xs f in
    let inside : i < length xs = omega arith in
    (inside, sym (get_or-map value_view vs i d (f e) within) ∙ ap (λ js. get_or js i (f e)) same ∙ get_or-map f xs i e (f e) inside)

pub some_from_ok : {A E : Type 0} (r : Option A) (e : E) (x : A) → Ok x ≡ ok_or r e → r ≡ Some x
some_from_ok None e x h = cc
some_from_ok (Some y) e x h = cc

pub array_same : (xs ys : List Json) → array_json xs ≡ array_json ys → xs ≡ ys
array_same xs ys e =
    let same : items_of xs ≡ items_of ys = cc in
    items_of-injective xs ys same

pub length_of : {A : Type 0} (vs : List (Value A)) (js : List Json) → map value_view vs ≡ js → length vs ≡ length js
length_of vs js e = sym (length-map vs value_view) ∙ ap length e

-- the value that a look-up finds
pub found_is : {A : Type 0} (r : Option (Bor (Value A))) (v : Bor (Value A)) (o : Option Json) (j : Json) → option_map (λ v. value_view v.now) r ≡ o → r ≡ Some v → o ≡ Some j → value_view v.now ≡ j
found_is {A} r v o j finds is wanted =
    let given : Some (value_view v.now) ≡ o = subst (λ (r : Option (Bor (Value A))). option_map (λ v. value_view v.now) r ≡ o) is finds in
    cc
