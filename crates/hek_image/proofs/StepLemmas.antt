-- A step whose parts pass their tests fits; names and IDs are short.
use Rattle.std.proofs.Common.{ℕ, ◌<◌, ◌≤◌, ◌^◌, ◌&&◌, not, List, [], ◌∷◌, length, arith, IsTrue, nat_lt}
use Rattle.std.specs.Prelude.{IfSome, nat_le}
use Rattle.std.specs.List.{AllByRecursion, list_all}
use Rattle.std.proofs.lemmas.Bool.{and_parts, ltb-true, leb-true}
use Rattle.hek_rules.specs.declared.event.Event.{Event}
use Rattle.hek_rules.specs.declared.event.Event.TheVariants as event
use Rattle.hek_rules.specs.declared.kind.EventKind.{EventKind}
use Rattle.hek_rules.specs.declared.kind.EventKind.TheVariants as kind
use Rattle.hek_rules.specs.Name.{is_name, is_name_byte, begins_with_letter, is_reserved}
use Rattle.hek_rules.specs.Events.{event_of, txn_of}
use Rattle.hek_rules.specs.Plan.{Plan, IsPlan, IsDeclared, IsStep, StepFits, names_of}
use Rattle.hek_image.specs.Loading.{step_txn_fits, first_fits}

declared : (n t : ℕ) → IsTrue (nat_lt 0 t && nat_le t n) → IsDeclared n t
declared n t h = let both = and_parts (nat_lt 0 t) (nat_le t n) h in (ltb-true 0 t both.0, leb-true t n both.1)

step_coded : (p : Plan) (k : EventKind) (t a b : ℕ) → IsTrue (step_txn_fits p k t) → IsTrue (first_fits p k a) → a < 2 ^ 64 → b < 2 ^ 64 → IsStep p.buckets (length p.txns) (event_of k t a b)
step_coded p kind.Begin t a b h g x y = declared (length p.txns) t h
step_coded p kind.Read t a b h g x y = (declared (length p.txns) t h, x)
step_coded p kind.Scan t a b h g x y = (declared (length p.txns) t h, ltb-true a p.buckets g)
step_coded p kind.Insert t a b h g x y = (declared (length p.txns) t h, (x, y))
step_coded p kind.Update t a b h g x y = (declared (length p.txns) t h, (x, y))
step_coded p kind.Delete t a b h g x y = (declared (length p.txns) t h, x)
step_coded p kind.Finish t a b h g x y = declared (length p.txns) t h
step_coded p kind.Precommit t a b h g x y = declared (length p.txns) t h
step_coded p kind.Release t a b h g x y = declared (length p.txns) t h
step_coded p kind.Commit t a b h g x y = declared (length p.txns) t h
step_coded p kind.Fail t a b h g x y = declared (length p.txns) t h
step_coded p kind.Stamp t a b h g x y = declared (length p.txns) t h
step_coded p kind.End t a b h g x y = declared (length p.txns) t h
step_coded p kind.Detect t a b h g x y = tt

pub coded_step : (p : Plan) (k : EventKind) (t a b : ℕ) → IsTrue (step_txn_fits p k t) → IsTrue (first_fits p k a) → a < 2 ^ 64 → b < 2 ^ 64 → length p.steps < 1000000 → StepFits p (event_of k t a b)
coded_step p k t a b h g x y room = (room, step_coded p k t a b h g x y)

short_name : (w : List ℕ) → IsTrue (is_name w) → length w ≤ 32
short_name w h =
    let a = and_parts ((begins_with_letter w && nat_le (length w) 32) && list_all is_name_byte w) (not (is_reserved w)) h in
    let b = and_parts (begins_with_letter w && nat_le (length w) 32) (list_all is_name_byte w) a.0 in
    leb-true (length w) 32 (and_parts (begins_with_letter w) (nat_le (length w) 32) b.0).1

all_short : (ws : List (List ℕ)) → AllByRecursion (λ w. IsTrue (is_name w)) ws → AllByRecursion (λ w. length w < 256) ws
all_short [] h = tt
all_short (w ∷ ws) h = (omega (arith, short_name w h.0), all_short ws h.1)

pub short_names : (p : Plan) → IsPlan p → AllByRecursion (λ name. length name < 256) (names_of p)
short_names p is = all_short (names_of p) is.forms

abbrev IsShort : Event → Type 0
IsShort e = IfSome (txn_of e) (λ t. t < 2 ^ 32)

few : (n t : ℕ) → n ≤ 1024 → IsDeclared n t → t < 2 ^ 32
few n t le h = omega (arith, h.1)

step_short : (b n : ℕ) (e : Event) → n ≤ 1024 → IsStep b n e → IsShort e
step_short b n (event.Begin t) le h = few n t le h
step_short b n (event.Read t k) le h = few n t le h.0
step_short b n (event.Scan t k) le h = few n t le h.0
step_short b n (event.Insert t k v) le h = few n t le h.0
step_short b n (event.Update t k v) le h = few n t le h.0
step_short b n (event.Delete t k) le h = few n t le h.0
step_short b n (event.Finish t) le h = few n t le h
step_short b n (event.Precommit t) le h = few n t le h
step_short b n (event.Release t) le h = few n t le h
step_short b n (event.Commit t) le h = few n t le h
step_short b n (event.Fail t) le h = few n t le h
step_short b n (event.Stamp t) le h = few n t le h
step_short b n (event.End t) le h = few n t le h
step_short b n event.Detect le h = tt

all_steps_short : (b n : ℕ) (es : List Event) → n ≤ 1024 → AllByRecursion (IsStep b n) es → AllByRecursion IsShort es
all_steps_short b n [] le h = tt
all_steps_short b n (e ∷ es) le h = (step_short b n e le h.0, all_steps_short b n es le h.1)

pub short_txns : (p : Plan) → IsPlan p → AllByRecursion (λ e. IfSome (txn_of e) (λ t. t < 2 ^ 32)) p.steps
short_txns p is = all_steps_short p.buckets (length p.txns) p.steps is.txn_count is.steps
