-- What the passes of the checker show together.
use Rattle.std.proofs.Common.{◌≡◌, ℕ, ◌+◌, ◌<◌, ◌≤◌, true, cond, List, [], ◌∷◌, Option, Some, None, Result, Ok, Err, refl, sym, ap, ◌∙◌, subst, inl, inr, length, arith}
use Rattle.std.proofs.lemmas.Bool.{cases_Bool, cases_lt, both_ways, eqb-true}
use Rattle.std.proofs.lemmas.Option.{slice_get_within}
use Rattle.std.specs.Prelude.{◌==◌, IfOk, slice_get}
use Rattle.hek_rules.specs.Listing.{value_of}
use Rattle.hek_levels.specs.declared.log.Log.{Log}
use Rattle.hek_levels.specs.declared.log.Need.{Need}
use Rattle.hek_levels.specs.declared.log.Need.TheVariants.{Absent}
use Rattle.hek_levels.specs.declared.log.Read.{Read}
use Rattle.hek_levels.specs.declared.log.Scan.{Scan}
use Rattle.hek_levels.specs.declared.log.Place.{Place}
use Rattle.hek_levels.specs.declared.log.Place.TheVariants.{Listed, Missing}
use Rattle.hek_levels.specs.declared.rules.Rules.{Rules}
use Rattle.hek_levels.specs.declared.rules.Asked.{Asked}
use Rattle.hek_levels.specs.declared.certificate.Writer.{Writer}
use Rattle.hek_levels.specs.declared.certificate.Writer.TheVariants as writer
use Rattle.hek_levels.specs.declared.certificate.Missing.{Missing as Given}
use Rattle.hek_levels.specs.declared.certificate.Certificate.{Certificate}
use Rattle.hek_levels.specs.Levels.{asked_of}
use Rattle.hek_levels.specs.Logs.{meets, misses, missing_in, scans_of, read_at, does_write, is_kept, is_committed, is_possible, offers}
use Rattle.hek_levels.specs.Seen.{Explanation, At, rank, place, IsLinked, SeesByOwn, SeesBy, Sees, IsOrdered}
use Rattle.hek_levels.specs.Explanations.{IsSource, Explains, listed as listed_writer, given_at, given_of, source_at, explanation}
use Rattle.hek_levels.specs.Places.{IsPlacing, IsPlacedBefore, IsSourcedBy, AreListedSourced, IsUntouched, AreAllMissingSourced, AreInTurn}
use Rattle.hek_levels.specs.Sweeps.{AreLast, IsMarked, IsDirect, IsNewestFrom, IsNewestAt}
use Rattle.hek_levels.proofs.Orders.{some_is, same_at, cases_below, takes, placed}
use Rattle.hek_levels.proofs.Earlier.{seen-earlier, stands_before}
use Rattle.hek_levels.proofs.Marks.{at_entry, at_others}
use Rattle.hek_levels.proofs.Turned.{earlier-pair}
use Rattle.hek_levels.proofs.Givens.{given-at}

pub same_read : (log : Log) (t : ℕ) (r : Place) (a b : Read) → read_at log t r ≡ Some a → read_at log t r ≡ Some b → a ≡ b
same_read log t r a b e f = let g : Some a ≡ Some b = sym e ∙ f in cc

-- one place more
pub placing_more : (log : Log) (order : List ℕ) (i t : ℕ) (f g : ℕ → Option ℕ) → IsPlacing log order i f → At order i t → is_possible log t ≡ true → f t ≡ None →
    ((k : ℕ) → g k ≡ cond (t == k) (Some i) (f k)) → IsPlacing log order (i + 1) g
placing_more log order i t f g known a may none more = record {
  there = (λ x j e.
      elim (cases_Bool (t == x)) [
        | inl same ↦
            let is : t ≡ x = eqb-true t x same in
            let here : i ≡ j = some_is i j (sym (at_entry f g t i more x is) ∙ e) in
            (omega arith, subst (λ (n : ℕ). At order n x) here (subst (λ (y : ℕ). At order i y) is a))
        | inr other ↦ let r = known.there x j (sym (at_others f g t i more x other) ∙ e) in (let l = r.0 in omega (arith, l), r.1)
      ]);
  all = (λ j x l b.
      elim (cases_below j i l) [
        | inl less ↦
            elim (cases_Bool (t == x)) [
              | inl same ↦
                  let is : t ≡ x = eqb-true t x same in
                  absurd (let had = known.all j t less (subst (λ (y : ℕ). At order j y) (sym is) b) in let no : None ≡ Some j = sym none ∙ had in cc)
              | inr other ↦ at_others f g t i more x other ∙ known.all j x less b
            ]
        | inr is ↦
            let here : At order i x = subst (λ (n : ℕ). At order n x) is b in
            at_entry f g t i more x (same_at order i t x a here) ∙ ap Some (sym is)
      ]);
  possible = (λ j x l b.
      elim (cases_below j i l) [
        | inl less ↦ known.possible j x less b
        | inr is ↦ subst (λ (y : ℕ). is_possible log y ≡ true) (same_at order i t x a (subst (λ (n : ℕ). At order n x) is b)) may
      ]);
}

pub once_placed : (log : Log) (order : List ℕ) (places : ℕ → Option ℕ) → IsPlacing log order (length order) places → (i j t : ℕ) → At order i t → At order j t → i ≡ j
once_placed log order places p i j t a b =
    some_is i j (sym (p.all i t (slice_get_within order i t a) a) ∙ p.all j t (slice_get_within order j t b) b)

-- the rank of a writer that is placed
pub placed_rank : (log : Log) (order : List ℕ) (places : ℕ → Option ℕ) → IsPlacing log order (length order) places → (x j : ℕ) → places x ≡ Some j → place order x ≡ j
placed_rank log order places p x j e = placed order (once_placed log order places p) j x (p.there x j e).1

placed_before : (log : Log) (order : List ℕ) (places : ℕ → Option ℕ) → IsPlacing log order (length order) places → (i t : ℕ) → At order i t → (w : Writer) → IsPlacedBefore places i w →
    rank order w < rank order (writer.Transaction t)
placed_before log order places p i t a writer.Opening b = omega arith
placed_before log order places p i t a (writer.Transaction x) b =
    let first = placed_rank log order places p x b.0 b.1 in
    let second = placed order (once_placed log order places p) i t a in
    let l = b.2 in
    omega arith

-- ---- sources

-- what a scan says of a key
pub record IsMissing (log : Log) (t s k : ℕ) (read : Read) : Type 0 where
  pub scan : Scan
  pub there : slice_get (scans_of log t) s ≡ Some scan
  pub said : misses scan k ≡ true
  pub key : read.key ≡ k
  pub need : read.need ≡ Absent
  pub operation : read.operation ≡ scan.operation

none-is : (read : Read) → ◌≡◌ {A = Option Read} None (Some read) → ⊥
none-is read e = cc

abbrev the_read : Scan → ℕ → Read
the_read scan k = record { operation = scan.operation; key = k; need = Absent }

the-same : (a b : Read) → ◌≡◌ {A = Option Read} (Some a) (Some b) → a ≡ b
the-same a b e = cc

pub missing-of : (log : Log) (t s k : ℕ) (read : Read) → read_at log t (Missing s k) ≡ Some read → IsMissing log t s k read
missing-of log t s k read e = go (slice_get (scans_of log t) s) refl e
  where
    go : (o : Option Scan) → slice_get (scans_of log t) s ≡ o → missing_in o k ≡ Some read → IsMissing log t s k read
    go None is f = absurd (none-is read f)
    go (Some scan) is f =
        elim (cases_Bool (misses scan k)) [
          | inr not_so ↦ absurd (none-is read (rw not_so at f))
          | inl is_so ↦
              let same : the_read scan k ≡ read = the-same (the_read scan k) read (rw is_so at f) in
              record {
                scan = scan;
                there = is;
                said = is_so;
                key = ap (λ (r : Read). r.key) (sym same);
                need = ap (λ (r : Read). r.need) (sym same);
                operation = ap (λ (r : Read). r.operation) (sym same);
              }
        ]

-- of a key that nobody has touched the opening is a source
opening-offers : (log : Log) (order : List ℕ) (i t s k : ℕ) (read : Read) → IsMissing log t s k read → IsUntouched log order i k → offers log writer.Opening read ≡ true
opening-offers log order i t s k read m u =
    ap (λ (n : ℕ). meets read.need (value_of log.rows.items n)) m.key ∙ ap (λ (o : Option ℕ). meets read.need o) u.opening ∙ ap (λ (n : Need). meets n None) m.need

module _ (log : Log) (c : Certificate) (places : ℕ → Option ℕ) (p : IsPlacing log c.order.items (length c.order.items) places) (listed : AreListedSourced log c places) (missing : AreAllMissingSourced log c places) where
  sourced-by : (i t : ℕ) (r : Place) (read : Read) (w : Writer) → At c.order.items i t → IsSourcedBy log places i t r w → read_at log t r ≡ Some read → IsSource log (explanation c) t read w
  sourced-by i t r read w a by there =
      let s = by read there in
      record { offered = s.0; before = placed_before log c.order.items places p i t a w s.1 }

  sourced-missing : (i t s k : ℕ) (read : Read) → At c.order.items i t → read_at log t (Missing s k) ≡ Some read → IsSource log (explanation c) t read (source_at c t (Missing s k))
  sourced-missing i t s k read a there = go (given_at (given_of c t) s k) refl
    where
      go : (o : Option Writer) → given_at (given_of c t) s k ≡ o → IsSource log (explanation c) t read (listed_writer o)
      go (Some w) is = sourced-by i t (Missing s k) read w a ((missing i t a).given s k w is) there
      go None is =
          let m = missing-of log t s k read there in
          let u = (missing i t a).others s k m.scan m.there m.said is in
          record {
            offered = opening-offers log c.order.items i t s k read m u;
            before = placed_before log c.order.items places p i t a writer.Opening tt;
          }

  pub sourced : (i t : ℕ) (r : Place) (read : Read) → At c.order.items i t → read_at log t r ≡ Some read → IsSource log (explanation c) t read (source_at c t r)
  sourced i t (Listed r) read a there = sourced-by i t (Listed r) read (source_at c t (Listed r)) a (listed i t r a) there
  sourced i t (Missing s k) read a there = sourced-missing i t s k read a there

  pub ordered_by : IsOrdered log (explanation c)
  ordered_by = record {
    once = once_placed log c.order.items places p;
    back = (λ t r read x k there is.
        let here = sourced k.0 t r read k.1 there in
        subst (λ (w : Writer). rank c.order.items w < rank c.order.items (writer.Transaction t)) is here.before);
  }

  -- no writer of a key that nobody has touched is seen
  newest-opening : (rules : Rules) (i t s k : ℕ) → At c.order.items i t → given_at (given_of c t) s k ≡ None → IsNewestAt rules log (explanation c) t (Missing s k)
  newest-opening rules i t s k a none read x there sees w =
      let m = missing-of log t s k read there in
      let u = (missing i t a).others s k m.scan m.there m.said none in
      let before = seen-earlier log (explanation c) ordered_by rules t read.operation x (i, a) sees in
      let q = takes (explanation c) x t before (i, a) in
      let lt = stands_before log (explanation c) ordered_by i q.0 x t a q.1 before in
      absurd (both_ways _ (u.written q.0 x lt q.1) (subst (λ (n : ℕ). does_write log x n ≡ true) m.key w))

  newest-missing : (rules : Rules) (i t s k : ℕ) → At c.order.items i t →
      ((n : ℕ) (one : Given) → slice_get (given_of c t) n ≡ Some one → IsNewestAt rules log (explanation c) t (Missing one.scan one.key)) → IsNewestAt rules log (explanation c) t (Missing s k)
  newest-missing rules i t s k a each = go (given_at (given_of c t) s k) refl
    where
      go : (o : Option Writer) → given_at (given_of c t) s k ≡ o → IsNewestAt rules log (explanation c) t (Missing s k)
      go None is = newest-opening rules i t s k a is
      go (Some w) is =
          let f = given-at (given_of c t) s k w is in
          subst (λ (n : ℕ). IsNewestAt rules log (explanation c) t (Missing s n)) f.4
          (subst (λ (n : ℕ). IsNewestAt rules log (explanation c) t (Missing n f.1.key)) f.3 (each f.0 f.1 f.2))

  pub newest : (asked : Asked) → ((i t r : ℕ) → At c.order.items i t → IsNewestAt (asked_of asked t) log (explanation c) t (Listed r)) →
      ((i t n : ℕ) (one : Given) → At c.order.items i t → slice_get (given_of c t) n ≡ Some one → IsNewestAt (asked_of asked t) log (explanation c) t (Missing one.scan one.key)) →
      (i t : ℕ) (r : Place) → At c.order.items i t → IsNewestAt (asked_of asked t) log (explanation c) t r
  newest asked in_list in_scans i t (Listed r) a = in_list i t r a
  newest asked in_list in_scans i t (Missing s k) a = newest-missing (asked_of asked t) i t s k a (λ n one there. in_scans i t n one a there)

-- ---- who is newest

-- the last writer of the key is not newer
pub newest_by_last : (rules : Rules) (log : Log) (e : Explanation) → IsOrdered log e → (i t : ℕ) (r : Place) (read : Read) (last : ℕ → Option ℕ) (low : ℕ) → AreLast log e.order i last → At e.order i t →
    read_at log t r ≡ Some read → low ≤ rank e.order (e.source t r) → ((m : ℕ) → last read.key ≡ Some m → m < low) → IsNewestAt rules log e t r
newest_by_last rules log e o i t r read last low known a there le none other x there' s w =
    let same = same_read log t r other read there' there in
    let before = seen-earlier log e o rules t other.operation x (i, a) s in
    let k = takes e x t before (i, a) in
    let lt = stands_before log e o i k.0 x t a k.1 before in
    let found = known.all k.0 x read.key lt k.1 (subst (λ (q : Read). does_write log x q.key ≡ true) same w) in
    let less = none found.0 found.1 in
    let at = placed e.order o.once k.0 x k.1 in
    let more = found.2 in
    omega arith

-- nobody newer is seen
pub newest_by_sweep : (rules : Rules) (log : Log) (e : Explanation) → IsOrdered log e → (i t : ℕ) (r : Place) (read : Read) (low : ℕ) → At e.order i t → read_at log t r ≡ Some read →
    low ≤ rank e.order (e.source t r) → IsNewestFrom rules log e t read.operation read.key low → IsNewestAt rules log e t r
newest_by_sweep rules log e o i t r read low a there le from other x there' s w =
    let same = same_read log t r other read there' there in
    let seen : Sees rules log e t read.operation x = subst (λ (q : Read). Sees rules log e t q.operation x) same s in
    let does : does_write log x read.key ≡ true = subst (λ (q : Read). does_write log x q.key ≡ true) same w in
    let before = seen-earlier log e o rules t read.operation x (i, a) seen in
    let k = takes e x t before (i, a) in
    let at = placed e.order o.once k.0 x k.1 in
    elim (cases_lt k.0 low) [ inl less ↦ omega arith | inr ge ↦ absurd (both_ways _ (from k.0 x ge k.1 seen) does) ]

-- where nobody is seen but by the reads of t itself
pub seen-direct : (rules : Rules) (log : Log) (e : Explanation) (t n x : ℕ) → IsDirect rules log t → Sees rules log e t n x → SeesByOwn rules.own log e t n x
seen-direct rules log e t n x d s = go s.0 s.1
  where
    by_links : IsLinked rules.first log e t x → ⊥
    by_links l =
        elim l [
          | inl w ↦ both_ways _ d.writers w.0
          | inr other ↦
              elim other [
                | inl turn ↦
                    let f = earlier-pair log x t turn.1.0 in
                    both_ways _ (d.turns turn.0 f.0.k f.0.b f.0.other) f.1
                | inr by ↦ both_ways _ d.turn_reads by.0
              ]
        ]

    go : (ys : List ℕ) → SeesBy rules log e t n ys x → SeesByOwn rules.own log e t n x
    go [] f =
        elim f [
          | inl whole ↦ absurd (both_ways _ d.whole whole.0)
          | inr other ↦ elim other [ inl own ↦ own | inr links ↦ absurd (by_links links) ]
        ]
    go (y ∷ ys) f =
        elim (f.0) [
          | inl before ↦ absurd (both_ways _ d.prefix before.0)
          | inr by ↦
              elim by [
                | inl reads ↦ absurd (both_ways _ d.causes reads.0)
                | inr links ↦
                    elim links [
                      | inl w ↦ absurd (both_ways _ d.next_writers w.0)
                      | inr other ↦ elim other [ inl turn ↦ absurd (both_ways _ d.next_turns turn.0) | inr reads ↦ absurd (both_ways _ d.next_turn_reads reads.0) ]
                    ]
              ]
        ]

pub newest_by_look : (rules : Rules) (log : Log) (e : Explanation) (places marked : ℕ → Option ℕ) (t n key low : ℕ) → IsDirect rules log t → IsPlacing log e.order (length e.order) places →
    ((x : ℕ) → SeesByOwn rules.own log e t n x → IsMarked marked x) →
    ((x j : ℕ) → IsMarked marked x → does_write log x key ≡ true → places x ≡ Some j → j < low) → IsNewestFrom rules log e t n key low
newest_by_look rules log e places marked t n key low d p own apart j x le a s =
    elim (cases_Bool (does_write log x key)) [
      | inr not_so ↦ not_so
      | inl does ↦
          let less = apart x j (own x (seen-direct rules log e t n x d s)) does (p.all j x (slice_get_within e.order j x a) a) in
          absurd (omega arith)
    ]

-- ---- turns

pub in_turn : (log : Log) (order : List ℕ) → ((i j t : ℕ) → At order i t → At order j t → i ≡ j) → AreInTurn log order (length order) → (x t : ℕ) → is_kept log x t ≡ true →
    ((i : ℕ) × At order i x) → ((i : ℕ) × At order i t) → rank order (writer.Transaction x) < rank order (writer.Transaction t)
in_turn log order once turns x t kept px pt =
    let first = placed order once px.0 x px.1 in
    let second = placed order once pt.0 t pt.1 in
    elim (cases_lt px.0 pt.0) [
      | inl less ↦ omega arith
      | inr ge ↦ absurd (both_ways _ (turns px.0 pt.0 x t (slice_get_within order px.0 x px.1) ge px.1 pt.1) kept)
    ]

-- ---- together

some_place : (places : ℕ → Option ℕ) (t : ℕ) → (places t ≡ None → ⊥) → (i : ℕ) × (places t ≡ Some i)
some_place places t some = go (places t) refl
  where
    go : (o : Option ℕ) → places t ≡ o → (i : ℕ) × (places t ≡ Some i)
    go None e = absurd (some e)
    go (Some i) e = (i, e)

pub all_placed : (log : Log) (order : List ℕ) (places : ℕ → Option ℕ) → IsPlacing log order (length order) places → ((t : ℕ) → is_committed log t ≡ true → places t ≡ None → ⊥) →
    (t : ℕ) → is_committed log t ≡ true → (i : ℕ) × At order i t
all_placed log order places p all t k = let f = some_place places t (all t k) in (f.0, (p.there t f.0 f.1).1)

pub explained : (asked : Asked) (log : Log) (c : Certificate) (places : ℕ → Option ℕ) → IsPlacing log c.order.items (length c.order.items) places → AreListedSourced log c places → AreAllMissingSourced log c places →
    ((t : ℕ) → is_committed log t ≡ true → places t ≡ None → ⊥) → AreInTurn log c.order.items (length c.order.items) →
    ((i t r : ℕ) → At c.order.items i t → IsNewestAt (asked_of asked t) log (explanation c) t (Listed r)) →
    ((i t n : ℕ) (one : Given) → At c.order.items i t → slice_get (given_of c t) n ≡ Some one → IsNewestAt (asked_of asked t) log (explanation c) t (Missing one.scan one.key)) → Explains asked log (explanation c)
explained asked log c places p listed missing all turns in_list in_scans = record {
  possible = (λ i t a. p.possible i t (slice_get_within c.order.items i t a) a);
  once = once_placed log c.order.items places p;
  committed = all_placed log c.order.items places p all;
  sources = (λ t r read k there. sourced log c places p listed missing k.0 t r read k.1 there);
  turns = (λ x t kept px pt. in_turn log c.order.items (once_placed log c.order.items places p) turns x t kept px pt);
  newest = (λ t r read x k there sees w. newest log c places p listed missing asked in_list in_scans k.0 t r k.1 read x there sees w);
}

pub if_ok : {A E : Type 0} {P Q : A → Type 0} (r : Result A E) → IfOk r P → ((x : A) → P x → Q x) → IfOk r Q
if_ok (Ok x) p f = f x p
if_ok (Err e) p f = tt

pub if_ok_two : {A E : Type 0} {P Q R : A → Type 0} (r : Result A E) → IfOk r P → IfOk r Q → ((x : A) → P x → Q x → R x) → IfOk r R
if_ok_two (Ok x) p q f = f x p q
if_ok_two (Err e) p q f = tt
