-- The keys of a bucket that a step scans are of one group.
use Rattle.std.proofs.Common.{◌≡◌, ℕ, true, false, List, [], ◌∷◌, ◌++◌, inl, inr, refl, ◌∙◌, ap, sym}
use Rattle.std.proofs.lemmas.Bool.{cond-false, eq-eqb, or_cases, or_left, or_right, and_right}
use Rattle.std.proofs.lemmas.List.Elements.{All-cons, All-nil}
use Rattle.std.specs.List.{All}
use Rattle.std.specs.Prelude.{◌%◌, ◌==◌, ◌&&◌, not}
use Rattle.hek_rules.specs.declared.event.Event.{Event}
use Rattle.hek_rules.specs.declared.event.Event.TheVariants as event
use Rattle.hek_rules.specs.Listing.{is_among}
use Rattle.hek_rules.specs.Plan.{Plan}
use Rattle.hek_similar.specs.Places.{ScansGroup}
use Rattle.hek_explore.specs.Groups.{Grouping, group_by, group_in, groups_of, scanned_by, scanned_in}

-- the group of a key of a scanned bucket is the bucket
of-scanned : (g : Grouping) (bucket key : ℕ) → is_among g.scanned bucket ≡ true → key % g.buckets ≡ bucket → group_by g key ≡ bucket
of-scanned g bucket key among same =
    let no : (g.few && not (is_among g.scanned (key % g.buckets))) ≡ false
    = and_right g.few (not (is_among g.scanned (key % g.buckets))) (ap not (ap (is_among g.scanned) same ∙ among)) in
    cond-false (g.few && not (is_among g.scanned (key % g.buckets))) key (key % g.buckets) no ∙ same

scan-groups : (g : Grouping) (e : Event) → ((bucket : ℕ) → is_among (scanned_by e) bucket ≡ true → is_among g.scanned bucket ≡ true) → ScansGroup (group_by g) g.buckets e
scan-groups g (event.Scan t bucket) h = λ k l a b.
    let among : is_among g.scanned bucket ≡ true = h bucket (or_left (bucket == bucket) false (eq-eqb bucket bucket refl)) in
    of-scanned g bucket k among a ∙ sym (of-scanned g bucket l among b)
scan-groups g (event.Begin t) h = tt
scan-groups g (event.Read t key) h = tt
scan-groups g (event.Insert t key value) h = tt
scan-groups g (event.Update t key value) h = tt
scan-groups g (event.Delete t key) h = tt
scan-groups g (event.Finish t) h = tt
scan-groups g (event.Precommit t) h = tt
scan-groups g (event.Release t) h = tt
scan-groups g (event.Commit t) h = tt
scan-groups g (event.Fail t) h = tt
scan-groups g (event.Stamp t) h = tt
scan-groups g (event.End t) h = tt
scan-groups g event.Detect h = tt

among-left : (xs ys : List ℕ) (n : ℕ) → is_among xs n ≡ true → is_among (xs ++ ys) n ≡ true
among-left [] ys n h = absurd (let bad : false ≡ true = h in cc)
among-left (x ∷ xs) ys n h = elim (or_cases (x == n) (is_among xs n) h) [
  | inl a ↦ or_left (x == n) (is_among (xs ++ ys) n) a
  | inr b ↦ or_right (x == n) (is_among (xs ++ ys) n) (among-left xs ys n b)
]

among-right : (xs ys : List ℕ) (n : ℕ) → is_among ys n ≡ true → is_among (xs ++ ys) n ≡ true
among-right [] ys n h = h
among-right (x ∷ xs) ys n h = or_right (x == n) (is_among (xs ++ ys) n) (among-right xs ys n h)

all-scan : (g : Grouping) (es : List Event) → ((bucket : ℕ) → is_among (scanned_in es) bucket ≡ true → is_among g.scanned bucket ≡ true) → All (ScansGroup (group_by g) g.buckets) es
all-scan g [] h = All-nil (ScansGroup (group_by g) g.buckets)
all-scan g (e ∷ es) h =
    All-cons (ScansGroup (group_by g) g.buckets) e es
    (scan-groups g e (λ bucket a. h bucket (among-left (scanned_by e) (scanned_in es) bucket a)))
    (all-scan g es (λ bucket a. h bucket (among-right (scanned_by e) (scanned_in es) bucket a)))

pub steps-scan : (p : Plan) → All (ScansGroup (group_in p) p.buckets) p.steps
steps-scan p = all-scan (groups_of p) p.steps (λ bucket a. a)
