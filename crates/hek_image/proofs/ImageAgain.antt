-- A schedule is loaded from its images.
use Rattle.std.proofs.Common.{◌≡◌, ℕ, ◌+◌, ◌<◌, ◌≤◌, ◌^◌, true, false, ◌&&◌, not, List, [], ◌∷◌, ◌++◌, length, Some, Ok, refl, sym, ap, subst, ◌∙◌, append_assoc, arith, nat_eq, IsTrue}
use Rattle.std.specs.Prelude.{nat_le, nat_lt, unwrap_or}
use Rattle.std.specs.Int.{w8, w16, w32, w64, to_be_bytes}
use Rattle.std.specs.List.{AllByRecursion, IsDistinct, flat_map, list_all}
use Rattle.std.specs.Map.{keys_of}
use Rattle.std.specs.Str.{bytes_eq}
use Rattle.std.proofs.lemmas.Bool.{and_parts, and_from, lt-ltb, le-leb}
use Rattle.std.proofs.lemmas.List.{append-nil}
use Rattle.hek_rules.specs.declared.event.Level.{Level}
use Rattle.hek_rules.specs.declared.event.Event.{Event}
use Rattle.hek_rules.specs.declared.event.Event.TheVariants as event
use Rattle.hek_rules.specs.declared.kind.EventKind.{EventKind}
use Rattle.hek_rules.specs.declared.kind.EventKind.TheVariants as kind
use Rattle.hek_rules.specs.Name.{is_name, is_name_byte, begins_with_letter, is_reserved}
use Rattle.hek_rules.specs.Events.{event_of, opcode_of, kind_coded}
use Rattle.hek_rules.specs.Plan.{Plan, IsPlan, IsRow, IsStep, IsDeclared, names_of, has_key, has_name}
use Rattle.hek_image.specs.declared.fault.LoadFault.TheVariants.{BadMagic, BadVersion}
use Rattle.hek_image.specs.Schedules.{magic, front_bytes, count_bytes, row_bytes, txn_bytes, level_byte, step_bytes, image, image_in, HasNoSnapshot}
use Rattle.hek_image.specs.Loading.{Header, both, checked_read, bytes_at, value, number_at, number_within, is_within, row_at, txn_at, is_new_name, level_coded, kind_at, is_opcode, step_at, step_txn_fits, first_fits, second_fits, times, magic_at, is_version, image_version, header_at, plan_at, ended, loading}
use Rattle.hek_image.proofs.Wide.{wide16, wide32, wide64}
use Rattle.hek_image.proofs.Readers.{Reads, here, bytes_reads, both_reads, then_reads, checked_reads, required_reads, number_reads, byte_reads, within_reads, times_reads, AllGood, added}
use Rattle.hek_image.proofs.Levels.{LevelFits, LevelsFit, few_versions, level_again, levels_fit_new, levels_fit_old}
use Rattle.hek_image.proofs.Distinct.{fresh_before, nat_flips, bytes_flips, map_append}

-- ---- rows
record GoodRow (p : Plan) (r : ℕ × ℕ) : Type 0 where
  pub fits : IsRow r
  pub fresh : has_key p r.0 ≡ false

abbrev with_row : Plan → ℕ × ℕ → Plan
with_row p r = record p { rows = p.rows ++ r ∷ [] }

row_reads : (p : Plan) (r : ℕ × ℕ) → GoodRow p r → Reads (row_at p) (row_bytes r) (with_row p r)
unfolding row_at
row_reads p r h =
    both_reads _ _ (to_be_bytes w64 r.0) (to_be_bytes w64 r.1) r.0 (with_row p r)
    (checked_reads (number_at w64) _ (to_be_bytes w64 r.0) r.0 (rw h.fresh refl) (number_reads w64 (2 ^ 64) wide64 r.0 h.fits.0))
    (then_reads (number_at w64) (λ v. record p { rows = p.rows ++ (r.0, v) ∷ [] }) (to_be_bytes w64 r.1) r.1 (number_reads w64 (2 ^ 64) wide64 r.1 h.fits.1))

good_rows : (p : Plan) (rs : List (ℕ × ℕ)) → AllByRecursion IsRow rs → IsDistinct nat_eq (keys_of (p.rows ++ rs)) → AllGood row_at row_bytes with_row GoodRow row_reads p rs
good_rows p [] h d = tt
good_rows p (r ∷ rs) h d =
    let apart : IsDistinct nat_eq (keys_of p.rows ++ r.0 ∷ keys_of rs) = subst (IsDistinct nat_eq) (map_append (λ (x : ℕ × ℕ). x.0) p.rows (r ∷ rs)) d in
    let next : IsDistinct nat_eq (keys_of ((p.rows ++ r ∷ []) ++ rs)) = subst (λ (xs : List (ℕ × ℕ)). IsDistinct nat_eq (keys_of xs)) (sym (append_assoc p.rows (r ∷ []) rs)) d in
    (record { fits = h.0; fresh = fresh_before nat_eq nat_flips (keys_of p.rows) r.0 (keys_of rs) apart }, good_rows (with_row p r) rs h.1 next)

added_rows : (p : Plan) (rs : List (ℕ × ℕ)) → added row_at row_bytes with_row GoodRow row_reads p rs ≡ record p { rows = p.rows ++ rs }
added_rows p [] = ap (λ (xs : List (ℕ × ℕ)). record p { rows = xs }) (sym (append-nil p.rows))
added_rows p (r ∷ rs) = added_rows (with_row p r) rs ∙ ap (λ (xs : List (ℕ × ℕ)). record p { rows = xs }) (append_assoc p.rows (r ∷ []) rs)

-- ---- transactions
record GoodTxn (version : ℕ) (p : Plan) (t : List ℕ × Level) : Type 0 where
  pub level : LevelFits version t
  pub form : is_name t.0 ≡ true
  pub fresh : has_name p t.0 ≡ false

abbrev with_txn : Plan → List ℕ × Level → Plan
with_txn p t = record p { txns = p.txns ++ t ∷ [] }

begins_long : (w : List ℕ) → begins_with_letter w ≡ true → 1 ≤ length w
begins_long [] h = absurd cc
begins_long (b ∷ bs) h = omega arith

len_within : (w : List ℕ) → is_name w ≡ true → is_within 1 32 (length w) ≡ true
len_within w h =
    let a = and_parts ((begins_with_letter w && nat_le (length w) 32) && list_all is_name_byte w) (not (is_reserved w)) h in
    let b = and_parts (begins_with_letter w && nat_le (length w) 32) (list_all is_name_byte w) a.0 in
    let c = and_parts (begins_with_letter w) (nat_le (length w) 32) b.0 in
    and_from (nat_le 1 (length w)) (nat_le (length w) 32) (le-leb 1 (length w) (begins_long w c.0)) c.1

txn_reads : (version : ℕ) (p : Plan) (t : List ℕ × Level) → GoodTxn version p t → Reads (txn_at version p) (txn_bytes t) (with_txn p t)
unfolding txn_at
txn_reads version p t h =
    let name : Reads (checked_read (bytes_at (length t.0)) (is_new_name p)) t.0 t.0 = checked_reads (bytes_at (length t.0)) (is_new_name p) t.0 t.0 (rw (h.form, h.fresh) refl) (bytes_reads t.0) in
    let level : record p { txns = p.txns ++ (t.0, level_coded (level_byte t.1)) ∷ [] } ≡ with_txn p t = ap (λ (l : Level). record p { txns = p.txns ++ (t.0, l) ∷ [] }) (level_again t.1) in
    subst (λ (q : Plan). Reads (txn_at version p) (txn_bytes t) q) level
    (both_reads _ _ (level_byte t.1 ∷ []) (length t.0 ∷ t.0) (level_byte t.1) _
    (within_reads 1 (version + 1) w8 (level_byte t.1 ∷ []) (level_byte t.1) h.level (byte_reads (level_byte t.1)))
    (both_reads _ _ (length t.0 ∷ []) t.0 (length t.0) _
    (within_reads 1 32 w8 (length t.0 ∷ []) (length t.0) (len_within t.0 h.form) (byte_reads (length t.0)))
    (then_reads (checked_read (bytes_at (length t.0)) (is_new_name p)) (λ w. record p { txns = p.txns ++ (w, level_coded (level_byte t.1)) ∷ [] }) t.0 t.0 name)))

good_txns : (version : ℕ) (p : Plan) (ts : List (List ℕ × Level)) → LevelsFit version ts → AllByRecursion (λ w. IsTrue (is_name w)) (keys_of ts) → IsDistinct bytes_eq (keys_of (p.txns ++ ts)) → AllGood (txn_at version) txn_bytes with_txn (GoodTxn version) (txn_reads version) p ts
good_txns version p [] l h d = tt
good_txns version p (t ∷ ts) l h d =
    let apart : IsDistinct bytes_eq (names_of p ++ t.0 ∷ keys_of ts) = subst (IsDistinct bytes_eq) (map_append (λ (x : List ℕ × Level). x.0) p.txns (t ∷ ts)) d in
    let next : IsDistinct bytes_eq (keys_of ((p.txns ++ t ∷ []) ++ ts)) = subst (λ (xs : List (List ℕ × Level)). IsDistinct bytes_eq (keys_of xs)) (sym (append_assoc p.txns (t ∷ []) ts)) d in
    (record { level = l.0; form = h.0; fresh = fresh_before bytes_eq bytes_flips (names_of p) t.0 (keys_of ts) apart }, good_txns version (with_txn p t) ts l.1 h.1 next)

added_txns : (version : ℕ) (p : Plan) (ts : List (List ℕ × Level)) → added (txn_at version) txn_bytes with_txn (GoodTxn version) (txn_reads version) p ts ≡ record p { txns = p.txns ++ ts }
added_txns version p [] = ap (λ (xs : List (List ℕ × Level)). record p { txns = xs }) (sym (append-nil p.txns))
added_txns version p (t ∷ ts) = added_txns version (with_txn p t) ts ∙ ap (λ (xs : List (List ℕ × Level)). record p { txns = xs }) (append_assoc p.txns (t ∷ []) ts)

-- ---- steps
record GoodStep (q p : Plan) (e : Event) : Type 0 where
  pub is : IsStep q.buckets (length q.txns) e
  pub plan : IsPlan q
  pub txns : p.txns ≡ q.txns
  pub buckets : p.buckets ≡ q.buckets

abbrev with_event : Plan → Event → Plan
with_event p e = record p { steps = p.steps ++ e ∷ [] }

kind_reads : (k : EventKind) → kind_coded (opcode_of k) ≡ Some k → Reads kind_at (opcode_of k ∷ []) k
unfolding kind_at
kind_reads k e =
    let known : is_opcode (opcode_of k) ≡ true = rw e refl in
    let same : unwrap_or (kind_coded (opcode_of k)) kind.Detect ≡ k = rw e refl in
    subst (λ (l : EventKind). Reads (both (checked_read (number_at w8) is_opcode) (λ n. value (unwrap_or (kind_coded n) kind.Detect))) (opcode_of k ∷ []) l) same
    (then_reads (checked_read (number_at w8) is_opcode) (λ n. unwrap_or (kind_coded n) kind.Detect) (opcode_of k ∷ []) (opcode_of k) (checked_reads (number_at w8) is_opcode (opcode_of k ∷ []) (opcode_of k) known (byte_reads (opcode_of k))))

coded : (p : Plan) (k : EventKind) (t a b : ℕ) → kind_coded (opcode_of k) ≡ Some k → step_txn_fits p k t ≡ true → first_fits p k a ≡ true → second_fits k b ≡ true → t < 2 ^ 32 → a < 2 ^ 64 → b < 2 ^ 64 →
    Reads (step_at p) (opcode_of k ∷ to_be_bytes w32 t ++ (to_be_bytes w64 a ++ to_be_bytes w64 b)) (with_event p (event_of k t a b))
unfolding step_at
coded p k t a b known txn first second x y z =
    both_reads _ _ (opcode_of k ∷ []) (to_be_bytes w32 t ++ (to_be_bytes w64 a ++ to_be_bytes w64 b)) k _ (kind_reads k known)
    (both_reads _ _ (to_be_bytes w32 t) (to_be_bytes w64 a ++ to_be_bytes w64 b) t _ (checked_reads (number_at w32) (step_txn_fits p k) (to_be_bytes w32 t) t txn (number_reads w32 (2 ^ 32) wide32 t x))
    (both_reads _ _ (to_be_bytes w64 a) (to_be_bytes w64 b) a _ (checked_reads (number_at w64) (first_fits p k) (to_be_bytes w64 a) a first (number_reads w64 (2 ^ 64) wide64 a y))
    (then_reads (checked_read (number_at w64) (second_fits k)) (λ c. with_event p (event_of k t a c)) (to_be_bytes w64 b) b (checked_reads (number_at w64) (second_fits k) (to_be_bytes w64 b) b second (number_reads w64 (2 ^ 64) wide64 b z)))))

declared_fits : (q p : Plan) (t : ℕ) → p.txns ≡ q.txns → IsDeclared (length q.txns) t → (nat_lt 0 t && nat_le t (length p.txns)) ≡ true
declared_fits q p t same h = and_from (nat_lt 0 t) (nat_le t (length p.txns)) (lt-ltb 0 t h.0) (le-leb t (length p.txns) (omega (arith, ap length same, h.1)))

few : (q : Plan) (t : ℕ) → IsPlan q → IsDeclared (length q.txns) t → t < 2 ^ 32
few q t is h = omega (arith, is.txn_count, h.1)

step_reads : (q p : Plan) (e : Event) → GoodStep q p e → Reads (step_at p) (step_bytes e) (with_event p e)
step_reads q p (event.Begin t) h = coded p kind.Begin t 0 0 refl (declared_fits q p t h.txns h.is) refl refl (few q t h.plan h.is) (omega arith) (omega arith)
step_reads q p (event.Read t a) h = coded p kind.Read t a 0 refl (declared_fits q p t h.txns h.is.0) refl refl (few q t h.plan h.is.0) h.is.1 (omega arith)
step_reads q p (event.Scan t a) h = coded p kind.Scan t a 0 refl (declared_fits q p t h.txns h.is.0) (lt-ltb a p.buckets (omega (arith, h.is.1, h.buckets))) refl (few q t h.plan h.is.0) (omega (arith, h.is.1, h.plan.buckets.1)) (omega arith)
step_reads q p (event.Insert t a b) h = coded p kind.Insert t a b refl (declared_fits q p t h.txns h.is.0) refl refl (few q t h.plan h.is.0) h.is.1.0 h.is.1.1
step_reads q p (event.Update t a b) h = coded p kind.Update t a b refl (declared_fits q p t h.txns h.is.0) refl refl (few q t h.plan h.is.0) h.is.1.0 h.is.1.1
step_reads q p (event.Delete t a) h = coded p kind.Delete t a 0 refl (declared_fits q p t h.txns h.is.0) refl refl (few q t h.plan h.is.0) h.is.1 (omega arith)
step_reads q p (event.Finish t) h = coded p kind.Finish t 0 0 refl (declared_fits q p t h.txns h.is) refl refl (few q t h.plan h.is) (omega arith) (omega arith)
step_reads q p (event.Precommit t) h = coded p kind.Precommit t 0 0 refl (declared_fits q p t h.txns h.is) refl refl (few q t h.plan h.is) (omega arith) (omega arith)
step_reads q p (event.Release t) h = coded p kind.Release t 0 0 refl (declared_fits q p t h.txns h.is) refl refl (few q t h.plan h.is) (omega arith) (omega arith)
step_reads q p (event.Commit t) h = coded p kind.Commit t 0 0 refl (declared_fits q p t h.txns h.is) refl refl (few q t h.plan h.is) (omega arith) (omega arith)
step_reads q p (event.Fail t) h = coded p kind.Fail t 0 0 refl (declared_fits q p t h.txns h.is) refl refl (few q t h.plan h.is) (omega arith) (omega arith)
step_reads q p (event.Stamp t) h = coded p kind.Stamp t 0 0 refl (declared_fits q p t h.txns h.is) refl refl (few q t h.plan h.is) (omega arith) (omega arith)
step_reads q p (event.End t) h = coded p kind.End t 0 0 refl (declared_fits q p t h.txns h.is) refl refl (few q t h.plan h.is) (omega arith) (omega arith)
step_reads q p event.Detect h = coded p kind.Detect 0 0 0 refl refl refl refl (omega arith) (omega arith) (omega arith)

good_steps : (q p : Plan) (es : List Event) → IsPlan q → p.txns ≡ q.txns → p.buckets ≡ q.buckets → AllByRecursion (IsStep q.buckets (length q.txns)) es → AllGood step_at step_bytes with_event (GoodStep q) (step_reads q) p es
good_steps q p [] is t b h = tt
good_steps q p (e ∷ es) is t b h = (record { is = h.0; plan = is; txns = t; buckets = b }, good_steps q (with_event p e) es is t b h.1)

added_steps : (q p : Plan) (es : List Event) → added step_at step_bytes with_event (GoodStep q) (step_reads q) p es ≡ record p { steps = p.steps ++ es }
added_steps q p [] = ap (λ (xs : List Event). record p { steps = xs }) (sym (append-nil p.steps))
added_steps q p (e ∷ es) = added_steps q (with_event p e) es ∙ ap (λ (xs : List Event). record p { steps = xs }) (append_assoc p.steps (e ∷ []) es)

-- ---- the whole
abbrev begun : ℕ → Plan
begun n = record { buckets = n; rows = []; txns = []; steps = [] }

abbrev head_of : ℕ → Plan → Header
head_of version p = record { version = version; rows = length p.rows; txns = length p.txns; steps = length p.steps }

count_reads : (low high n : ℕ) → low ≤ n → n ≤ high → high < 2 ^ 32 → Reads (number_within low high w32) (to_be_bytes w32 n) n
count_reads low high n above below small = within_reads low high w32 (to_be_bytes w32 n) n (and_from (nat_le low n) (nat_le n high) (le-leb low n above) (le-leb n high below)) (number_reads w32 (2 ^ 32) wide32 n (omega arith))

magic_reads : Reads magic_at magic magic
unfolding magic_at
magic_reads = required_reads (bytes_at 4) (λ m. bytes_eq m magic) BadMagic magic magic refl (bytes_reads magic)

version_reads : (version : ℕ) → is_version version ≡ true → Reads image_version (to_be_bytes w16 version) version
unfolding image_version
version_reads version e =
    let small : version < 2 ^ 16 = omega (arith, few_versions version e) in
    required_reads (number_at w16) is_version BadVersion (to_be_bytes w16 version) version e (number_reads w16 (2 ^ 16) wide16 version small)

header_reads : (version : ℕ) (p : Plan) → is_version version ≡ true → IsPlan p → Reads header_at (front_bytes version p.buckets ++ count_bytes p) (begun p.buckets, head_of version p)
unfolding header_at
header_reads version p known is =
    let rows = to_be_bytes w32 (length p.rows) in
    let txns = to_be_bytes w32 (length p.txns) in
    let steps = to_be_bytes w32 (length p.steps) in
    both_reads _ _ magic (to_be_bytes w16 version ++ (to_be_bytes w32 p.buckets ++ (rows ++ (txns ++ steps)))) magic _ magic_reads
    (both_reads _ _ (to_be_bytes w16 version) (to_be_bytes w32 p.buckets ++ (rows ++ (txns ++ steps))) version _ (version_reads version known)
    (both_reads _ _ (to_be_bytes w32 p.buckets) (rows ++ (txns ++ steps)) p.buckets _ (count_reads 1 1024 p.buckets is.buckets.0 is.buckets.1 (omega arith))
    (both_reads _ _ rows (txns ++ steps) (length p.rows) _ (count_reads 0 65536 (length p.rows) (omega arith) is.row_count (omega arith))
    (both_reads _ _ txns steps (length p.txns) _ (count_reads 0 1024 (length p.txns) (omega arith) is.txn_count (omega arith))
    (then_reads (number_within 0 1000000 w32) (λ n. (begun p.buckets, record { version = version; rows = length p.rows; txns = length p.txns; steps = n })) steps (length p.steps) (count_reads 0 1000000 (length p.steps) (omega arith) is.step_count (omega arith)))))))

plan_reads : (version : ℕ) (p : Plan) → is_version version ≡ true → LevelsFit version p.txns → IsPlan p → Reads plan_at (image_in version p) p
unfolding plan_at
plan_reads version p known levels is =
    let p0 : Plan = begun p.buckets in
    let p1 : Plan = record p0 { rows = p.rows } in
    let p2 : Plan = record p1 { txns = p.txns } in
    let rows = flat_map row_bytes p.rows in
    let txns = flat_map txn_bytes p.txns in
    let steps = flat_map step_bytes p.steps in
    let r0 : Reads (times (length p.rows) row_at p0) rows p1 = subst (λ (q : Plan). Reads (times (length p.rows) row_at p0) rows q) (added_rows p0 p.rows) (times_reads row_at row_bytes with_row GoodRow row_reads p0 p.rows (good_rows p0 p.rows is.rows is.keys)) in
    let r1 : Reads (times (length p.txns) (txn_at version) p1) txns p2 = subst (λ (q : Plan). Reads (times (length p.txns) (txn_at version) p1) txns q) (added_txns version p1 p.txns) (times_reads (txn_at version) txn_bytes with_txn (GoodTxn version) (txn_reads version) p1 p.txns (good_txns version p1 p.txns levels is.forms is.names)) in
    let r2 : Reads (times (length p.steps) step_at p2) steps p = subst (λ (q : Plan). Reads (times (length p.steps) step_at p2) steps q) (added_steps p p2 p.steps) (times_reads step_at step_bytes with_event (GoodStep p) (step_reads p) p2 p.steps (good_steps p p2 p.steps is refl refl is.steps)) in
    both_reads _ _ (front_bytes version p.buckets ++ count_bytes p) (rows ++ (txns ++ steps)) (p0, head_of version p) p (header_reads version p known is)
    (both_reads _ _ rows (txns ++ steps) p1 p r0
    (both_reads _ _ txns steps p2 p r1 r2))

loads : (version : ℕ) (p : Plan) → is_version version ≡ true → LevelsFit version p.txns → IsPlan p → loading (image_in version p) ≡ Ok p
unfolding loading
loads version p known levels is =
    let nothing : image_in version p ++ [] ≡ image_in version p = append-nil (image_in version p) in
    ap (λ (bs : List ℕ). ended (plan_at (here 0 bs))) (sym nothing) ∙ ap ended ((plan_reads version p known levels is).reads 0 [])

pub image_again : (p : Plan) → IsPlan p → loading (image p) ≡ Ok p
image_again p is = loads 2 p refl (levels_fit_new p) is

pub image_again_old : (p : Plan) → IsPlan p → HasNoSnapshot p → loading (image_in 1 p) ≡ Ok p
image_again_old p is none = loads 1 p refl (levels_fit_old p none) is
