-- A schedule's plan after each builder, and its names as lists of bytes.
use Rattle.std.proofs.Common.{◌≡◌, ℕ, ◌<◌, ◌≤◌, ◌^◌, Bool, true, false, ◌&&◌, not, List, [], ◌∷◌, ◌++◌, length, map, Option, Some, None, refl, sym, ap, subst, ◌∙◌, arith, nat_eq, nat_lt, slice_get, IsTrue}
use Rattle.std.specs.Prelude.{is_some, position}
use Rattle.std.specs.List.{AllByRecursion, IsDistinct, list_any, prefix_len}
use Rattle.std.specs.Option.{option_map}
use Rattle.std.specs.Str.{bytes_eq}
use Rattle.std.specs.Map.{keys_of, lookup}
use Rattle.std.proofs.lemmas.Bool.{and_parts, not-true, ltb-true}
use Rattle.std.proofs.lemmas.List.{length-map, map_push, length_push}
use Rattle.std.proofs.lemmas.Option.{slice_get-map}
use Rattle.std.proofs.lemmas.Map.Made.{is_some-lookup}
use Rattle.hek_rules.specs.declared.event.Level.{Level}
use Rattle.hek_rules.specs.declared.event.Event.{Event}
use Rattle.hek_rules.specs.declared.event.Event.TheVariants as event
use Rattle.hek_rules.specs.Name.{is_name}
use Rattle.hek_rules.specs.Plan.{Plan, IsPlan, IsDeclared, IsRow, IsStep, names_of, row_fits, txn_fits, has_key, has_name}

-- what holds of all elements and of a last one holds of the longer list
pub all_push : {X : Type 0} (P : X → Type 0) (xs : List X) (y : X) → AllByRecursion P xs → P y → AllByRecursion P (xs ++ y ∷ [])
all_push P [] y h p = (p, tt)
all_push P (x ∷ xs) y h p = (h.0, all_push P xs y h.1 p)

-- a look-up that is not Some is None
pub none_from_not_some : {X : Type 0} (o : Option X) → is_some o ≡ false → o ≡ None
none_from_not_some None e = refl
none_from_not_some (Some x) e = absurd cc

pub absent : {K X : Type 0} (test : K → Bool) (es : List (K × X)) → list_any test (keys_of es) ≡ false → lookup test es ≡ None
absent test es e = none_from_not_some (lookup test es) (is_some-lookup test es ∙ e)

-- ---- keys seen through a function of them
prefix_len-map : {X Y : Type 0} (p : Y → Bool) (f : X → Y) (xs : List X) → prefix_len p (map f xs) ≡ prefix_len (λ x. p (f x)) xs
prefix_len-map p f [] = refl
prefix_len-map p f (x ∷ xs) = rw (prefix_len-map p f xs) refl

pub position-map : {X Y : Type 0} (p : Y → Bool) (f : X → Y) (xs : List X) → position p (map f xs) ≡ position (λ x. p (f x)) xs
position-map p f xs = rw (prefix_len-map (λ x. not (p x)) f xs, length-map xs f) refl

all_map : {X Y : Type 0} (P : Y → Type 0) (f : X → Y) (xs : List X) → AllByRecursion (λ x. P (f x)) xs → AllByRecursion P (map f xs)
all_map P f [] h = tt
all_map P f (x ∷ xs) h = (h.0, all_map P f xs h.1)

distinct_map : {X Y : Type 0} (same : Y → Y → Bool) (f : X → Y) (xs : List X) → IsDistinct (λ a b. same (f a) (f b)) xs → IsDistinct same (map f xs)
unfolding IsDistinct
distinct_map same f [] h = tt
distinct_map same f (x ∷ xs) h = (all_map (λ y. same (f x) y ≡ false) f xs h.0, distinct_map same f xs h.1)

module _ {K L : Type 0} (f : K → List ℕ) where
  abbrev pub texts : List (K × L) → List (List ℕ × L)
  texts es = map (λ p. (f p.0, p.1)) es

  pub keys_of-texts : (es : List (K × L)) → keys_of (texts es) ≡ map f (keys_of es)
  keys_of-texts [] = refl
  keys_of-texts (e ∷ es) = ap (λ ys. f e.0 ∷ ys) (keys_of-texts es)

  pub list_any-texts : (w : List ℕ) (es : List (K × L)) → list_any (λ k. bytes_eq w (f k)) (keys_of es) ≡ list_any (bytes_eq w) (keys_of (texts es))
  list_any-texts w [] = refl
  list_any-texts w (e ∷ es) = rw (list_any-texts w es) refl

  pub position-texts : (w : List ℕ) (es : List (K × L)) → position (λ k. bytes_eq w (f k)) (keys_of es) ≡ position (bytes_eq w) (keys_of (texts es))
  position-texts w es = sym (ap (position (bytes_eq w)) (keys_of-texts es) ∙ position-map (bytes_eq w) f (keys_of es))

  pub distinct-texts : (es : List (K × L)) → IsDistinct (λ a b. bytes_eq (f a) (f b)) (keys_of es) → IsDistinct bytes_eq (keys_of (texts es))
  distinct-texts es h = subst (IsDistinct bytes_eq) (sym (keys_of-texts es)) (distinct_map bytes_eq f (keys_of es) h)

  -- a new name is the last in the list of names
  pub texts_push : (es fs : List (K × L)) (k : K) (l : L) (w : List ℕ) → fs ≡ es ++ (k, l) ∷ [] → f k ≡ w → texts fs ≡ texts es ++ (w, l) ∷ []
  texts_push es fs k l w e same = ap texts e ∙ map_push (λ (p : K × L). (f p.0, p.1)) es (k, l) ∙ ap (λ (x : List ℕ). texts es ++ (x, l) ∷ []) same

  -- the name at a place
  pub name_at : (es : List (K × L)) (i j : ℕ) (k : K) (l : L) (w : List ℕ) → slice_get es i ≡ Some (k, l) → w ≡ f k → i ≡ j → slice_get (keys_of (texts es)) j ≡ Some w
  name_at es i j k l w h same place =
      let seen : slice_get (texts es) i ≡ Some (f k, l) = slice_get-map (λ (p : K × L). (f p.0, p.1)) es i ∙ ap (option_map (λ (p : K × L). (f p.0, p.1))) h in
      let named : slice_get (keys_of (texts es)) i ≡ Some (f k) = slice_get-map (λ (p : List ℕ × L). p.0) (texts es) i ∙ ap (option_map (λ (p : List ℕ × L). p.0)) seen in
      subst (λ (n : ℕ). slice_get (keys_of (texts es)) n ≡ Some w) place (named ∙ ap (λ (x : List ℕ). Some x) (sym same))

  -- the value at a place
  pub value_at : (es : List (K × L)) (i j : ℕ) (k : K) (l : L) → slice_get es i ≡ Some (k, l) → i ≡ j → slice_get (map (λ (p : List ℕ × L). p.1) (texts es)) j ≡ Some l
  value_at es i j k l h place =
      let seen : slice_get (texts es) i ≡ Some (f k, l) = slice_get-map (λ (p : K × L). (f p.0, p.1)) es i ∙ ap (option_map (λ (p : K × L). (f p.0, p.1))) h in
      let valued : slice_get (map (λ (p : List ℕ × L). p.1) (texts es)) i ≡ Some l = slice_get-map (λ (p : List ℕ × L). p.1) (texts es) i ∙ ap (option_map (λ (p : List ℕ × L). p.1)) seen in
      subst (λ (n : ℕ). slice_get (map (λ (p : List ℕ × L). p.1) (texts es)) n ≡ Some l) place valued

-- ---- plans
pub empty_plan : (p : Plan) → (0 < p.buckets) × (p.buckets ≤ 1024) → p.rows ≡ [] → p.txns ≡ [] → p.steps ≡ [] → IsPlan p
unfolding IsDistinct
empty_plan p b r t s = record {
  buckets = b;
  row_count = rw r (omega arith);
  txn_count = rw t (omega arith);
  step_count = rw s (omega arith);
  rows = rw r tt;
  keys = subst (λ (es : List (ℕ × ℕ)). IsDistinct nat_eq (keys_of es)) (sym r) tt;
  names = subst (λ (es : List (List ℕ × Level)). IsDistinct bytes_eq (keys_of es)) (sym t) tt;
  forms = subst (λ (es : List (List ℕ × Level)). AllByRecursion (λ w. IsTrue (is_name w)) (keys_of es)) (sym t) tt;
  steps = rw s tt;
}

pub row_fits_parts : (p : Plan) (k : ℕ) → IsTrue (row_fits p k) → (length p.rows < 65536) × (has_key p k ≡ false)
row_fits_parts p k h =
    let both = and_parts (nat_lt (length p.rows) 65536) (not (has_key p k)) h in
    (ltb-true (length p.rows) 65536 both.0, not-true (has_key p k) both.1)

pub row_added : (p : Plan) (k v : ℕ) → IsPlan p → IsTrue (row_fits p k) → k < 2 ^ 64 → v < 2 ^ 64 → IsDistinct nat_eq (keys_of (p.rows ++ (k, v) ∷ [])) → IsPlan (record p { rows = p.rows ++ (k, v) ∷ [] })
row_added p k v is fits low_k low_v apart =
    let room = row_fits_parts p k fits in
    record {
      buckets = is.buckets;
      row_count = omega (arith, length_push p.rows (k, v), room.0);
      txn_count = is.txn_count;
      step_count = is.step_count;
      rows = all_push IsRow p.rows (k, v) is.rows (low_k, low_v);
      keys = apart;
      names = is.names;
      forms = is.forms;
      steps = is.steps;
    }

pub txn_fits_parts : (p : Plan) (w : List ℕ) → IsTrue (txn_fits p w) → (length p.txns < 1024) × (is_name w ≡ true) × (has_name p w ≡ false)
txn_fits_parts p w h =
    let both = and_parts (nat_lt (length p.txns) 1024 && is_name w) (not (has_name p w)) h in
    let front = and_parts (nat_lt (length p.txns) 1024) (is_name w) both.0 in
    (ltb-true (length p.txns) 1024 front.0, front.1, not-true (has_name p w) both.1)

-- a declared transaction stays declared if there are more
more_declared : (m n t : ℕ) → m ≤ n → IsDeclared m t → IsDeclared n t
more_declared m n t le h = (h.0, omega (arith, h.1))

more_txns : (buckets m n : ℕ) (e : Event) → m ≤ n → IsStep buckets m e → IsStep buckets n e
more_txns buckets m n (event.Begin t) le h = more_declared m n t le h
more_txns buckets m n (event.Finish t) le h = more_declared m n t le h
more_txns buckets m n (event.Precommit t) le h = more_declared m n t le h
more_txns buckets m n (event.Release t) le h = more_declared m n t le h
more_txns buckets m n (event.Commit t) le h = more_declared m n t le h
more_txns buckets m n (event.Fail t) le h = more_declared m n t le h
more_txns buckets m n (event.Stamp t) le h = more_declared m n t le h
more_txns buckets m n (event.End t) le h = more_declared m n t le h
more_txns buckets m n (event.Read t k) le h = (more_declared m n t le h.0, h.1)
more_txns buckets m n (event.Scan t b) le h = (more_declared m n t le h.0, h.1)
more_txns buckets m n (event.Insert t k v) le h = (more_declared m n t le h.0, h.1)
more_txns buckets m n (event.Update t k v) le h = (more_declared m n t le h.0, h.1)
more_txns buckets m n (event.Delete t k) le h = (more_declared m n t le h.0, h.1)
more_txns buckets m n event.Detect le h = tt

all_more_txns : (buckets m n : ℕ) (es : List Event) → m ≤ n → AllByRecursion (IsStep buckets m) es → AllByRecursion (IsStep buckets n) es
all_more_txns buckets m n [] le h = tt
all_more_txns buckets m n (e ∷ es) le h = (more_txns buckets m n e le h.0, all_more_txns buckets m n es le h.1)

pub txn_added : (p : Plan) (w : List ℕ) (l : Level) → IsPlan p → IsTrue (txn_fits p w) → IsDistinct bytes_eq (keys_of (p.txns ++ (w, l) ∷ [])) → IsPlan (record p { txns = p.txns ++ (w, l) ∷ [] })
txn_added p w l is fits apart =
    let room = txn_fits_parts p w fits in
    record {
      buckets = is.buckets;
      row_count = is.row_count;
      txn_count = omega (arith, length_push p.txns (w, l), room.0);
      step_count = is.step_count;
      rows = is.rows;
      keys = is.keys;
      names = apart;
      forms = subst (AllByRecursion (λ x. IsTrue (is_name x))) (sym (map_push (λ (e : List ℕ × Level). e.0) p.txns (w, l))) (all_push (λ x. IsTrue (is_name x)) (names_of p) w is.forms room.1);
      steps = all_more_txns p.buckets (length p.txns) (length (p.txns ++ (w, l) ∷ [])) p.steps (omega (arith, length_push p.txns (w, l))) is.steps;
    }
