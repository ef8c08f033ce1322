-- What is known of a transaction, with one operation more.
use Rattle.std.proofs.Common.{◌≡◌, ◌==◌, ◌↔◌, ℕ, zero, suc, ◌+◌, ◌<◌, Bool, true, false, cond, List, [], ◌∷◌, ◌++◌, Option, Some, None, take, refl, sym, ap, ◌∙◌, subst, inl, inr, ◌⊎◌, length, Vec, Global, arith}
use Rattle.std.specs.Prelude.{slice_get, is_some, IsTrue, ◌&&◌}
use Rattle.std.proofs.lemmas.Option.{slice_get_within}
use Rattle.std.specs.HashMap.{get}
use Rattle.std.proofs.Math.Seq.{take-length}
use Rattle.hek_history.specs.declared.history.Operation.{Operation}
use Rattle.hek_history.specs.declared.history.Transaction.{Transaction}
use Rattle.hek_levels.specs.declared.log.Turn.{Turn}
use Rattle.hek_history.specs.Answers.{key_of, change_of}
use Rattle.hek_levels.specs.declared.log.Change.{Change}
use Rattle.hek_levels.specs.declared.log.Need.{Need}
use Rattle.hek_levels.specs.declared.log.Read.{Read}
use Rattle.hek_levels.specs.declared.log.Scan.{Scan}
use Rattle.hek_levels.specs.declared.log.Place.{Place}
use Rattle.hek_levels.specs.declared.log.Place.TheVariants as place
use Rattle.hek_levels.specs.Logs.{left_in}
use Rattle.hek_history_levels.specs.Changes.{left_of, left_by, IsPassing}
use Rattle.hek_history_levels.specs.Reads.{IsRead, read_of, HasRead}
use Rattle.hek_history_levels.specs.Fits.{IsFitting, AreFittingTo, AreFitting}
use Rattle.hek_history_levels.specs.declared.own.Own.{Own}
use Rattle.hek_history_levels.specs.declared.transaction.Taken.{Taken}
use Rattle.hek_history_levels.specs.Taking.{own_left, IsOwn, undone, IsReadBy, AreReadsWith, IsTaken}
use Rattle.hek_history_levels.specs.Steps.{is_lenient, IsSeen}
use Rattle.hek_history_levels.proofs.Elements.{some-is, last-or-before, stays-there, pushed-there, cases-below}
use Rattle.hek_history_levels.proofs.Owned.{left-placed}
use Rattle.hek_history_levels.proofs.Lefts.{left-kept, left-changed, passing-old, passing-new, passing-cases}

-- ---- fitting

fitting-own : (lenient : Bool) (f g : ℕ → Option (Option ℕ)) (op : Operation) → ((k : ℕ) → f k ≡ g k) → IsFitting lenient f op → IsFitting lenient g op
fitting-own lenient f g op same i = record { by_key = i.by_key; of_scope = i.of_scope; agrees = (λ key v is. i.agrees key v (same key ∙ is)) }

both-so : (a b : Bool) → IsTrue (a && b) → IsTrue a × IsTrue b
both-so true b e = (refl, e)
both-so false b e = cc

both-then : (a b : Bool) → IsTrue a → IsTrue b → IsTrue (a && b)
both-then true b e f = f
both-then false b e f = cc

pub fits-more : (lenient : Bool) (ops : List Operation) (n : ℕ) (op : Operation) (own : ℕ → Option (Option ℕ)) (a b : Bool) → slice_get ops n ≡ Some op → ((k : ℕ) → own k ≡ left_by (take n ops) k) →
    (IsTrue a ↔ AreFittingTo lenient ops n) → (IsTrue b ↔ IsFitting lenient own op) → IsTrue (a && b) ↔ AreFittingTo lenient ops (n + 1)
fits-more lenient ops n op own a b there left old new = (so, then_so)
  where
    so : IsTrue (a && b) → AreFittingTo lenient ops (n + 1)
    so e m o l at =
        let parts = both-so a b e in
        elim (cases-below m n l) [
          | inl less ↦ old.0 parts.0 m o less at
          | inr same ↦
              let is : op ≡ o = some-is op o (sym there ∙ subst (λ (k : ℕ). slice_get ops k ≡ Some o) same at) in
              subst (λ (k : ℕ). IsFitting lenient (left_by (take k ops)) o) (sym same)
              (subst (IsFitting lenient (left_by (take n ops))) is (fitting-own lenient own (left_by (take n ops)) op left (new.0 parts.1)))
        ]

    then_so : AreFittingTo lenient ops (n + 1) → IsTrue (a && b)
    then_so all =
        both-then a b (old.1 (λ m o l at. all m o (omega (arith, l)) at))
        (new.1 (fitting-own lenient (left_by (take n ops)) own op (λ k. sym (left k)) (all n op (omega arith) there)))

pub fits-all : (lenient : Bool) (ops : List Operation) → AreFittingTo lenient ops (length ops) ↔ AreFitting lenient ops
fits-all lenient ops = (λ all m o at. all m o (slice_get_within ops m o at) at, λ all m o l at. all m o at)

-- ---- reads

pub reads-more : (lenient : Bool) (ops : List Operation) (n : ℕ) (op : Operation) (own : ℕ → Option (Option ℕ)) (reads more_reads : List Read) (scans more_scans : List Scan) → slice_get ops n ≡ Some op →
    ((k : ℕ) → own k ≡ left_by (take n ops) k) → ((m key : ℕ) (need : Need) → HasRead reads scans m key need ↔ ((m < n) × IsRead lenient ops m key need)) → AreReadsWith lenient own n op reads scans more_reads more_scans →
    (m key : ℕ) (need : Need) → HasRead more_reads more_scans m key need ↔ ((m < n + 1) × IsRead lenient ops m key need)
reads-more lenient ops n op own reads more_reads scans more_scans there left old more m key need = (so, then_so)
  where
    new : m ≡ n → IsReadBy lenient own op key need → (m < n + 1) × IsRead lenient ops m key need
    new same r = (
      omega (arith, same),
      record {
        op = op;
        there = subst (λ (k : ℕ). slice_get ops k ≡ Some op) (sym same) there;
        says = r.says;
        unchanged = subst (λ (k : ℕ). left_by (take k ops) key ≡ None) (sym same) (sym (left key) ∙ r.unchanged);
        judged = r.judged;
      },
    )

    so : HasRead more_reads more_scans m key need → (m < n + 1) × IsRead lenient ops m key need
    so h =
        elim ((more m key need).0 h) [
          | inl had ↦ let r = (old m key need).0 had in (let l = r.0 in omega (arith, l), r.1)
          | inr by ↦ new by.0 by.1
        ]

    then_so : (m < n + 1) × IsRead lenient ops m key need → HasRead more_reads more_scans m key need
    then_so r =
        elim (cases-below m n r.0) [
          | inl less ↦ (more m key need).1 (inl ((old m key need).1 (less, r.1)))
          | inr same ↦
              let is : r.1.op ≡ op = some-is r.1.op op (sym (subst (λ (k : ℕ). slice_get ops k ≡ Some r.1.op) same r.1.there) ∙ there) in
              (more m key need).1
              (inr (
                same,
                subst (λ (o : Operation). IsReadBy lenient own o key need) is
                    (record { says = r.1.says; unchanged = left key ∙ subst (λ (k : ℕ). left_by (take k ops) key ≡ None) same r.1.unchanged; judged = r.1.judged }),
              ))
        ]

pub reads-none : (lenient : Bool) (ops : List Operation) (m key : ℕ) (need : Need) → HasRead [] [] m key need ↔ ((m < 0) × IsRead lenient ops m key need)
reads-none lenient ops m key need = (λ h. absurd (none h.0 h.1), λ r. absurd (omega (arith, r.0)))
  where
    none : (p : Place) → read_of [] [] p ≡ Some (record { operation = m; key = key; need = need }) → ⊥
    none (place.Listed r) e = let f : ◌≡◌ {A = Option Read} None (Some (record { operation = m; key = key; need = need })) = e in cc
    none (place.Missing s k) e = let f : ◌≡◌ {A = Option Read} None (Some (record { operation = m; key = key; need = need })) = e in cc

pub reads-all : (lenient : Bool) (ops : List Operation) (m key : ℕ) (need : Need) (h : Type 0) → (h ↔ ((m < length ops) × IsRead lenient ops m key need)) → h ↔ IsRead lenient ops m key need
reads-all lenient ops m key need h is = (λ x. (is.0 x).1, λ r. is.1 (slice_get_within ops m r.op r.there, r))

-- ---- passing

abbrev IsIn : List Change → Change → Type 0
IsIn changes c = (i : ℕ) × (slice_get changes i ≡ Some c)

same-list : (ys : List Change) (d : Change) (i : ℕ) → slice_get (ys ++ []) i ≡ Some d → IsIn ys d
same-list [] d i e = (i, e)
same-list (y ∷ ys) d zero e = (zero, e)
same-list (y ∷ ys) d (suc i) e = let r = same-list ys d i e in (suc r.0, r.1)

undone-cases : (xs : List Change) (k : ℕ) (o : Option (Option ℕ)) (c : Change) → IsIn (xs ++ undone k o) c → IsIn xs c ⊎ ((k ≡ c.key) × (o ≡ Some c.value))
undone-cases xs k None c m = inl (same-list xs c m.0 m.1)
undone-cases xs k (Some v) c m =
    elim (last-or-before xs (record { key = k; value = v }) m.0 c m.1) [
      | inl old ↦ inl (m.0, old)
      | inr new ↦ inr (ap (λ (x : Change). x.key) new.1, ap Some (ap (λ (x : Change). x.value) new.1))
    ]

undone-new : (xs : List Change) (k : ℕ) (o : Option (Option ℕ)) (c : Change) → k ≡ c.key → o ≡ Some c.value → IsIn (xs ++ undone k o) c
undone-new xs k o c same is =
    let one : undone k o ≡ c ∷ [] = ap (undone k) is ∙ ap (λ (n : ℕ). undone n (Some c.value)) same in
    (length xs, ap (λ (ys : List Change). slice_get (xs ++ ys) (length xs)) one ∙ pushed-there xs c)

pub passing-kept : (ops : List Operation) (n : ℕ) (op : Operation) (xs : List Change) (c : Change) → slice_get ops n ≡ Some op → left_of (change_of op) ≡ None → (IsIn xs c ↔ IsPassing ops n c) → IsIn xs c ↔ IsPassing ops (n + 1) c
passing-kept ops n op xs c there none old = (λ m. passing-old ops n c (old.0 m), back)
  where
    back : IsPassing ops (n + 1) c → IsIn xs c
    back p =
        elim (passing-cases ops n op c there p) [
          | inl had ↦ old.1 had
          | inr new ↦ absurd (let f : false ≡ true = sym (ap is_some none) ∙ new.1 in cc)
        ]

pub passing-changed : (ops : List Operation) (n : ℕ) (op : Operation) (xs ys : List Change) (o : Option (Option ℕ)) (v : Option ℕ) (c : Change) → slice_get ops n ≡ Some op → left_of (change_of op) ≡ Some v →
    o ≡ left_by (take n ops) (key_of op) → ys ≡ xs ++ undone (key_of op) o → (IsIn xs c ↔ IsPassing ops n c) → IsIn ys c ↔ IsPassing ops (n + 1) c
passing-changed ops n op xs ys o v c there changes left is old = (so, then_so)
  where
    so : IsIn ys c → IsPassing ops (n + 1) c
    so m =
        elim (undone-cases xs (key_of op) o c (subst (λ (zs : List Change). IsIn zs c) is m)) [
          | inl had ↦ passing-old ops n c (old.0 had)
          | inr new ↦ passing-new ops n op c there new.0 (ap is_some changes) (ap (left_by (take n ops)) (sym new.0) ∙ sym left ∙ new.1)
        ]

    kept : IsIn xs c → IsIn ys c
    kept m = subst (λ (zs : List Change). IsIn zs c) (sym is) (m.0, stays-there xs (undone (key_of op) o) m.0 c m.1)

    then_so : IsPassing ops (n + 1) c → IsIn ys c
    then_so p =
        elim (passing-cases ops n op c there p) [
          | inl had ↦ kept (old.1 had)
          | inr new ↦ subst (λ (zs : List Change). IsIn zs c) (sym is) (undone-new xs (key_of op) o c new.0 (left ∙ ap (left_by (take n ops)) new.0 ∙ new.2))
        ]

-- ---- all of it

module _ (lenient : Bool) (ops : List Operation) (n : ℕ) (op : Operation) (old : Taken) (there : slice_get ops n ≡ Some op) (known : IsTaken lenient ops n old)
    (fitting all : Bool) (fits_so : IsTrue fitting ↔ IsFitting lenient (own_left old.own) op) (both : all ≡ (old.fits && fitting))
    (new_reads : Vec Read Global) (new_scans : Vec Scan Global) (more : AreReadsWith lenient (own_left old.own) n op old.reads.items old.scans.items new_reads.items new_scans.items) where
  fits-now : IsTrue all ↔ AreFittingTo lenient ops (n + 1)
  fits-now = subst (λ (b : Bool). IsTrue b ↔ AreFittingTo lenient ops (n + 1)) (sym both) (fits-more lenient ops n op (own_left old.own) old.fits fitting there known.left known.fits fits_so)

  reads-now : (m key : ℕ) (need : Need) → HasRead new_reads.items new_scans.items m key need ↔ ((m < n + 1) × IsRead lenient ops m key need)
  reads-now = reads-more lenient ops n op (own_left old.own) old.reads.items new_reads.items old.scans.items new_scans.items there known.left known.reads more

  -- with an operation that changes nothing
  pub taken-kept : left_of (change_of op) ≡ None → IsTaken lenient ops (n + 1) (record { fits = all; reads = new_reads; scans = new_scans; own = old.own })
  taken-kept none = record {
    own = known.own;
    left = (λ key. known.left key ∙ sym (left-kept ops n op key there none));
    passing = (λ c. passing-kept ops n op old.own.passing.items c there none (known.passing c));
    fits = fits-now;
    reads = reads-now;
  }

  -- with one that changes its key
  pub taken-changed : (v : Option ℕ) (k : ℕ) (new_own : Own) → left_of (change_of op) ≡ Some v → k ≡ key_of op → IsOwn new_own → ((key : ℕ) → own_left new_own key ≡ cond (k == key) (Some v) (own_left old.own key)) →
      new_own.passing.items ≡ old.own.passing.items ++ undone k (own_left old.own k) → IsTaken lenient ops (n + 1) (record { fits = all; reads = new_reads; scans = new_scans; own = new_own })
  taken-changed v k new_own changes of placed left_is passing_is = record {
    own = placed;
    left = (λ key.
        left_is key ∙ ap (λ (j : ℕ). cond (j == key) (Some v) (own_left old.own key)) of ∙ ap (λ (o : Option (Option ℕ)). cond (key_of op == key) (Some v) o) (known.left key)
        ∙ sym (left-changed ops n op v key there changes));
    passing = (λ c.
        passing-changed ops n op old.own.passing.items new_own.passing.items (own_left old.own (key_of op)) v c there changes (known.left (key_of op))
        (passing_is ∙ ap (λ (j : ℕ). old.own.passing.items ++ undone j (own_left old.own j)) of) (known.passing c));
    fits = fits-now;
    reads = reads-now;
  }

-- a transaction as levels see it
pub seen-by : (given : List Turn) (x : Transaction) (taken : Taken) (the_turns : Vec Turn Global) (the_reads : Vec Read Global) (the_writes : Vec Change Global) (lenient : Bool) (ops : List Operation) → lenient ≡ is_lenient x.level → ops ≡ x.operations.items → the_turns.items ≡ given → the_reads.items ≡ taken.reads.items → the_writes.items ≡ taken.own.writes.items →
    IsTaken lenient ops (length ops) taken →
    IsSeen given x (record { status = x.status; fits = taken.fits; turns = the_turns; reads = the_reads; scans = taken.scans; writes = the_writes; passing = taken.own.passing })
seen-by given x taken the_turns the_reads the_writes lenient ops level is turned read written t =
    let known : IsTaken (is_lenient x.level) x.operations.items (length x.operations.items) taken =
    subst (λ (b : Bool). IsTaken b x.operations.items (length x.operations.items) taken) level (subst (λ (os : List Operation). IsTaken lenient os (length os) taken) is t) in
    let fit = fits-all (is_lenient x.level) x.operations.items in
    record {
      status = refl;
      turns = turned;
      fits = (λ e. fit.0 (known.fits.0 e), λ a. known.fits.1 (fit.1 a));
      reads = (λ n key need.
          subst
          (λ (rs : List Read). HasRead rs taken.scans.items n key need ↔ IsRead (is_lenient x.level) x.operations.items n key need)
          (sym read)
          (reads-all (is_lenient x.level) x.operations.items n key need (HasRead taken.reads.items taken.scans.items n key need) (known.reads n key need)));
      writes = (λ key.
          ap (λ (cs : List Change). left_in cs key) written ∙ left-placed (get ◌==◌ taken.own.places) taken.own.writes.items known.own key ∙ known.left key ∙ ap (λ (os : List Operation). left_by os key) (take-length x.operations.items));
      passing = known.passing;
    }
