-- A sweep, one place on.
use Rattle.std.proofs.Common.{◌≡◌, ℕ, ◌+◌, ◌≤◌, Bool, true, false, List, [], ◌∷◌, Option, refl, sym, subst, inl, inr, ◌⊎◌, arith}
use Rattle.hek_levels.specs.declared.log.Log.{Log}
use Rattle.hek_levels.specs.declared.rules.Rules.{Rules}
use Rattle.hek_levels.specs.Logs.{does_write, is_earlier}
use Rattle.hek_levels.specs.Seen.{Explanation, At, TakesPlace, IsBefore, ReadsFrom, Precedes, SeesByOwn, IsLinked, SeesBy, Sees, IsOrdered}
use Rattle.hek_levels.specs.Sweeps.{IsMarked, AreMarked, AreKept, AreRaised, IsShown, MayLink, MayLinkAny, MaySee, MayCarry, Carries, IsSwept, IsNewestFrom}
use Rattle.hek_levels.proofs.Orders.{takes, same_at, cases_from}
use Rattle.hek_levels.proofs.Earlier.{before_trans, linked-earlier, seen-earlier, stands_before}
use Rattle.hek_levels.proofs.Turned.{before_any}

module _ (rules : Rules) (log : Log) (e : Explanation) (o : IsOrdered log e) (t n key : ℕ) (p : TakesPlace e t) where
  sees-earlier : (x : ℕ) → Sees rules log e t n x → IsBefore e x t
  sees-earlier x s = seen-earlier log e o rules t n x p s

  sees-takes : (x : ℕ) → Sees rules log e t n x → TakesPlace e x
  sees-takes x s = takes e x t (sees-earlier x s) p

  -- who brings the sources of those before it takes place
  carries-takes : (y : ℕ) → Carries rules log e t n y → TakesPlace e y
  carries-takes y c = elim c [ inl self ↦ subst (TakesPlace e) (sym self.1) p | inr seen ↦ sees-takes y seen.1 ]

  carries-not_after : (y : ℕ) → Carries rules log e t n y → (y ≡ t) ⊎ IsBefore e y t
  carries-not_after y c = elim c [ inl self ↦ inl self.1 | inr seen ↦ inr (sees-earlier y seen.1) ]

  precedes-earlier : (z y : ℕ) → Carries rules log e t n y → IsBefore e z y → IsBefore e z t
  precedes-earlier z y c l =
      elim (carries-not_after y c) [
        | inl same ↦ subst (IsBefore e z) same l
        | inr before ↦ before_trans e z y t l before
      ]

  pub swept_start : (i : ℕ) (marked lanes keys : ℕ → Option ℕ) (some : Bool) → At e.order i t → ((x : ℕ) → SeesByOwn rules.own log e t n x → IsMarked marked x) →
      IsSwept rules log e t n key i marked lanes keys some
  swept_start i marked lanes keys some a own = record {
    own = own;
    shown = (λ y j l b s. absurd (let lt = stands_before log e o i j y t a b (sees-earlier y s) in omega (arith, lt, l)));
    apart = (λ y j l b s. absurd (let lt = stands_before log e o i j y t a b (sees-earlier y s) in omega (arith, lt, l)));
    carried = (λ z j y l b c before. absurd (let lt = stands_before log e o i j z t a b (precedes-earlier z y c before.1) in omega (arith, lt, l)));
  }

  module _ (q y : ℕ) (a : At e.order q y) (marked lanes keys after : ℕ → Option ℕ) (some : Bool) (swept : IsSwept rules log e t n key (q + 1) marked lanes keys some) (kept : AreKept marked after) where
    -- who is after y stands after q
    after_y : (z j : ℕ) → At e.order j z → IsBefore e y z → q + 1 ≤ j
    after_y z j b l = let lt = stands_before log e o j q y z b a l in omega (arith, lt)

    shown : (z : ℕ) → Sees rules log e t n z → IsBefore e y z → IsShown rules log e marked lanes keys some z
    shown z s l = let k = sees-takes z s in swept.shown z k.0 (after_y z k.0 k.1 l) k.1 s

    -- what turns bring of one after y
    carried : (z x : ℕ) → Carries rules log e t n z → (c : ℕ) → Precedes log e c z → ReadsFrom log e c x → IsBefore e x c → x ≡ y → IsMarked after y
    carried z x k c before reads l same =
        let back : IsBefore e y c = subst (λ (m : ℕ). IsBefore e m c) same l in
        let f = takes e c z before.1 (carries-takes z k) in
        let m = swept.carried c f.0 z (after_y c f.0 f.1 back) f.1 k before x reads in
        subst (IsMarked after) same (kept x m)

    brought : (z : ℕ) → Carries rules log e t n z → TakesPlace e z → (c : ℕ) → Precedes log e c z → ReadsFrom log e c y → IsMarked after y
    brought z k place c before reads =
        let f = takes e c z before.1 place in
        carried z y k c before reads (o.back c reads.0 reads.1 y f reads.2 reads.3) refl

    first_linked : IsLinked rules.first log e t y → MayLink rules.first log t y ⊎ IsMarked after y
    first_linked s =
        elim s [
          | inl w ↦ inl (inl (w.0, (w.1.0, w.1.1, w.1.2)))
          | inr other ↦
              elim other [
                | inl turn ↦ inl (inr (turn.0, turn.1.0))
                | inr by ↦ inr (brought t (inl (by.0, refl)) p by.1.0 by.1.1 by.1.2)
              ]
        ]

    next_linked : (z : ℕ) → Sees rules log e t n z → IsShown rules log e marked lanes keys some z → IsLinked rules.next log e z y → MayLinkAny rules.next log lanes keys y ⊎ IsMarked after y
    next_linked z seen known s =
        elim s [
          | inl w ↦ inl (inl (w.0, (w.1.0, w.1.1, known.writes w.1.0 w.1.2)))
          | inr other ↦
              elim other [
                | inl turn ↦ inl (inr (turn.0, before_any log lanes y z turn.1.0 known.turns))
                | inr by ↦ inr (brought z (inr (by.0, seen)) (sees-takes z seen) by.1.0 by.1.1 by.1.2)
              ]
        ]

    pub may_see : Sees rules log e t n y → MaySee rules log t after lanes keys some y
    may_see s = go s.0 s.1
      where
        go : (ys : List ℕ) → SeesBy rules log e t n ys y → MaySee rules log t after lanes keys some y
        go [] f =
            elim f [
              | inl whole ↦ inl whole.0
              | inr other ↦
                  elim other [
                    | inl own ↦ inr (inr (inl (kept y (swept.own y own))))
                    | inr k ↦ elim (first_linked k) [ inl may ↦ inr (inr (inr (inl may))) | inr m ↦ inr (inr (inl m)) ]
                  ]
            ]
        go (z ∷ zs) f =
            let s : Sees rules log e t n z = (zs, f.1) in
            let q = sees-takes z s in
            elim (f.0) [
              | inl before ↦ inr (inl (before.0, (shown z s before.1).any))
              | inr by ↦
                  elim by [
                    | inl reads ↦
                        let rd = reads.1 in
                        let known = shown z s (o.back z rd.0 rd.1 y q rd.2 rd.3) in
                        inr (inr (inl (kept y (known.sources reads.0 y rd))))
                    | inr k ↦
                        elim (next_linked z s (shown z s (linked-earlier log e o rules.next z y q k)) k) [
                          | inl may ↦ inr (inr (inr (inr may)))
                          | inr m ↦ inr (inr (inl m))
                        ]
                  ]
            ]

    pub may_carry : (z : ℕ) → Carries rules log e t n z → Precedes log e y z → MayCarry rules log t lanes y
    may_carry z c before =
        elim c [
          | inl self ↦ inl (self.0, subst (λ (m : ℕ). is_earlier log y m ≡ true) self.1 before.0)
          | inr s ↦ inr (s.0, before_any log lanes y z before.0 (shown z s.1 before.1).turns)
        ]

    at_y : (z j : ℕ) → q ≡ j → At e.order j z → y ≡ z
    at_y z j same b = same_at e.order q y z a (subst (λ (m : ℕ). At e.order m z) (sym same) b)

    carried_more : (MayCarry rules log t lanes y → AreMarked log e after y) → (last : ℕ → Option ℕ) → AreKept after last →
        (z j w : ℕ) → q ≤ j → At e.order j z → Carries rules log e t n w → Precedes log e z w → AreMarked log e last z
    carried_more bring last more z j w l b c before =
        elim (cases_from q j l) [
          | inr on ↦ λ x rd. more x (kept x (swept.carried z j w on b c before x rd))
          | inl here ↦
              let same = at_y z j here b in
              let own : AreMarked log e after y = bring (may_carry w c (subst (λ (m : ℕ). Precedes log e m w) (sym same) before)) in
              λ x rd. more x (own x (subst (λ (m : ℕ). ReadsFrom log e m x) (sym same) rd))
        ]

    -- y is not seen
    pub swept_by : (MayCarry rules log t lanes y → AreMarked log e after y) → (MaySee rules log t after lanes keys some y → ⊥) → IsSwept rules log e t n key q after lanes keys some
    swept_by bring not_so = record {
      own = (λ x s. kept x (swept.own x s));
      shown = (λ z j l b s.
          elim (cases_from q j l) [
            | inr on ↦
                let known = swept.shown z j on b s in
                record { any = known.any; sources = (λ c x r. kept x (known.sources c x r)); writes = known.writes; turns = known.turns }
            | inl here ↦ absurd (not_so (may_see (subst (Sees rules log e t n) (sym (at_y z j here b)) s)))
          ]);
      apart = (λ z j l b s.
          elim (cases_from q j l) [
            | inr on ↦ swept.apart z j on b s
            | inl here ↦ absurd (not_so (may_see (subst (Sees rules log e t n) (sym (at_y z j here b)) s)))
          ]);
      carried = carried_more bring after (λ x m. m);
    }

    -- y may be seen
    pub swept_more : (MayCarry rules log t lanes y → AreMarked log e after y) → does_write log y key ≡ false → (last later more_keys : ℕ → Option ℕ) (any : Bool) → AreKept after last → AreRaised lanes later → AreKept keys more_keys →
        IsShown rules log e last later more_keys any y → IsSwept rules log e t n key q last later more_keys any
    swept_more bring apart last later more_keys any more raised wider known = record {
      own = (λ x s. more x (kept x (swept.own x s)));
      shown = (λ z j l b s.
          elim (cases_from q j l) [
            | inr on ↦
                let old = swept.shown z j on b s in
                record {
                  any = known.any;
                  sources = (λ c x r. more x (kept x (old.sources c x r)));
                  writes = (λ k w. wider k (old.writes k w));
                  turns = (λ i turn there seen. raised turn.lane turn.first (old.turns i turn there seen));
                }
            | inl here ↦ subst (IsShown rules log e last later more_keys any) (at_y z j here b) known
          ]);
      apart = (λ z j l b s.
          elim (cases_from q j l) [
            | inr on ↦ swept.apart z j on b s
            | inl here ↦ subst (λ (m : ℕ). does_write log m key ≡ false) (at_y z j here b) apart
          ]);
      carried = carried_more bring last more;
    }

  -- at the end
  pub swept_end : (q low : ℕ) (marked lanes keys : ℕ → Option ℕ) (some : Bool) → q ≤ low → IsSwept rules log e t n key q marked lanes keys some → IsNewestFrom rules log e t n key low
  swept_end q low marked lanes keys some le swept j x l a s = swept.apart x j (omega (arith, le, l)) a s
