-- What one level sees, another sees.
use Rattle.std.proofs.Common.{◌≡◌, ℕ, ◌<◌, true, false, List, [], ◌∷◌, refl, subst, inl, inr}
use Rattle.hek_levels.specs.declared.log.Log.{Log}
use Rattle.hek_levels.specs.declared.rules.Rules.{Rules}
use Rattle.hek_levels.specs.declared.rules.Asked.{Asked}
use Rattle.hek_levels.specs.declared.rules.Asked.TheVariants as asked
use Rattle.hek_levels.specs.declared.rules.Links.{Links}
use Rattle.hek_levels.specs.declared.rules.Level.TheVariants.{ReadCommitted, MonotonicView, ReadAtomic, Causal, Prefix, ParallelSnapshot, Snapshot, Serializable}
use Rattle.hek_levels.specs.declared.certificate.Writer.{Writer}
use Rattle.hek_levels.specs.declared.certificate.Writer.TheVariants as writer
use Rattle.hek_levels.specs.Seen.{Explanation, TakesPlace, rank, ReadsFrom, ReadsTo, SeesByOwn, IsLinked, SeesFirst, Shows, SeesBy, Sees, IsOrdered}
use Rattle.hek_levels.specs.Explanations.{Explains}
use Rattle.hek_levels.specs.Levels.{rules_of, rules_for, all_four}
use Rattle.hek_levels_laws.specs.Laws.{Implies, LevelsImply, GuaranteesImply}
use Rattle.hek_levels.proofs.Earlier.{seen-earlier}

-- an explanation is ordered
pub ordered : (ask : Asked) (log : Log) (e : Explanation) → Explains ask log e → IsOrdered log e
ordered ask log e x = record {
  once = x.once;
  back = (λ t r read y o there is.
      let b = (x.sources t r read o there).before in
      subst (λ (w : Writer). rank e.order w < rank e.order (writer.Transaction t)) is b);
}

-- where all that the weak rules see is seen by the strong, what explains by these explains by those
weakened : (strong weak : Rules) (log : Log) (e : Explanation) →
    ((t n y : ℕ) → TakesPlace e t → Sees weak log e t n y → Sees strong log e t n y) → Explains (asked.All strong) log e → Explains (asked.All weak) log e
weakened strong weak log e sees x = record {
  possible = x.possible;
  once = x.once;
  committed = x.committed;
  sources = x.sources;
  turns = x.turns;
  newest = (λ t r read y o there s does. x.newest t r read y o there (sees t read.operation y o s) does);
}

-- step by step
module _ (strong weak : Rules) (log : Log) (e : Explanation) (t n : ℕ)
    (first : (y : ℕ) → SeesFirst weak log e t n y → Sees strong log e t n y)
    (shows : (z y : ℕ) → Sees strong log e t n z → Shows weak log e z y → Sees strong log e t n y) where
  sees_by : (ys : List ℕ) (y : ℕ) → SeesBy weak log e t n ys y → Sees strong log e t n y
  sees_by [] y s = first y s
  sees_by (z ∷ zs) y s = shows z y (sees_by zs z s.1) s.0

  sees_so : (y : ℕ) → Sees weak log e t n y → Sees strong log e t n y
  sees_so y s = sees_by s.0 y s.1

-- links of which each is one of others
abbrev AreWithin : Links → Links → Type 0
AreWithin few more = (few.writers ≡ true → more.writers ≡ true) × (few.turns ≡ true → more.turns ≡ true) × (few.turn_reads ≡ true → more.turn_reads ≡ true)

linked_within : (few more : Links) (log : Log) (e : Explanation) (y x : ℕ) → AreWithin few more → IsLinked few log e y x → IsLinked more log e y x
linked_within few more log e y x w l =
    elim l [
      | inl a ↦ inl (w.0 a.0, a.1)
      | inr other ↦ elim other [ inl b ↦ inr (inl (w.1 b.0, b.1)) | inr c ↦ inr (inr (w.2 c.0, c.1)) ]
    ]

-- rules of which each is one of others
within : (strong weak : Rules) → (weak.whole ≡ true → strong.whole ≡ true) →
    ((log : Log) (e : Explanation) (t n y : ℕ) → SeesByOwn weak.own log e t n y → SeesByOwn strong.own log e t n y) →
    AreWithin weak.first strong.first → (weak.prefix ≡ true → strong.prefix ≡ true) → (weak.causes ≡ true → strong.causes ≡ true) → AreWithin weak.next strong.next → Implies strong weak
within strong weak all own first before causes next log e x =
    weakened strong weak log e
    (λ t n y o s.
    sees_so strong weak log e t n
    (λ z f. (
      [],
      elim f [
        | inl a ↦ inl (all a.0, a.1)
        | inr other ↦ elim other [ inl b ↦ inr (inl (own log e t n z b)) | inr c ↦ inr (inr (linked_within weak.first strong.first log e t z first c)) ]
      ],
    ))
    (λ z w seen f. (
      z ∷ seen.0,
      (
        elim f [
          | inl p ↦ inl (before p.0, p.1)
          | inr by ↦ inr (elim by [ inl a ↦ inl (causes a.0, a.1) | inr c ↦ inr (linked_within weak.next strong.next log e z w next c) ])
        ],
        seen.1,
      ),
    ))
    y s) x

same_links : (links : Links) → AreWithin links links
same_links links = (λ a. a, λ a. a, λ a. a)

-- rules that see the whole see what any see
whole_implies : (strong weak : Rules) → strong.whole ≡ true → Implies strong weak
whole_implies strong weak on log e x =
    weakened strong weak log e (λ t n y o s. ([], inl (on, seen-earlier log e (ordered (asked.All strong) log e x) weak t n y o s))) x

never : {A : Type 0} → false ≡ true → A
never e = absurd (let f : ⊥ = cc in f)

to_is_own : (log : Log) (e : Explanation) (t n y : ℕ) → ReadsTo log e t n y → ReadsFrom log e t y
to_is_own log e t n y s = (s.0, s.1, s.2, s.4)

pub levels_imply : LevelsImply
levels_imply = record {
  serializable = whole_implies (rules_of Serializable) (rules_of Snapshot) refl;
  snapshot =
      within (rules_of Snapshot) (rules_of Prefix) (λ on. never on) (λ log e t n y s. s)
      (λ on. never on, λ on. on, λ on. never on) (λ on. on) (λ on. on) (λ on. never on, λ on. on, λ on. never on);
  snapshot_too =
      within (rules_of Snapshot) (rules_of ParallelSnapshot) (λ on. never on) (λ log e t n y s. s)
      (same_links _) (λ on. never on) (λ on. on) (same_links _);
  prefix =
      within (rules_of Prefix) (rules_of Causal) (λ on. never on) (λ log e t n y s. s)
      (same_links _) (λ on. never on) (λ on. on) (same_links _);
  parallel_snapshot =
      within (rules_of ParallelSnapshot) (rules_of Causal) (λ on. never on) (λ log e t n y s. s)
      (λ on. refl, λ on. on, λ on. on) (λ on. on) (λ on. on) (λ on. refl, λ on. on, λ on. on);
  causal =
      within (rules_of Causal) (rules_of ReadAtomic) (λ on. never on) (λ log e t n y s. s)
      (λ on. on, λ on. on, λ on. on) (λ on. on) (λ on. refl) (λ on. on, λ on. never on, λ on. on);
  read_atomic =
      within (rules_of ReadAtomic) (rules_of MonotonicView) (λ on. never on) to_is_own
      (λ on. on, λ on. never on, λ on. on) (λ on. on) (λ on. on) (λ on. on, λ on. on, λ on. on);
  monotonic_view =
      within (rules_of MonotonicView) (rules_of ReadCommitted) (λ on. never on) (λ log e t n y s. absurd s)
      (λ on. on, λ on. on, λ on. on) (λ on. on) (λ on. on) (λ on. on, λ on. on, λ on. on);
}

-- what turns bring is seen in two steps
carried : (log : Log) (e : Explanation) (t n z y : ℕ) → Sees (rules_of Causal) log e t n z → IsLinked (rules_for all_four).next log e z y → Sees (rules_of Causal) log e t n y
carried log e t n z y seen l =
    elim l [
      | inl a ↦ never a.0
      | inr other ↦
          elim other [
            | inl b ↦ (z ∷ seen.0, (inr (inr (inr (inl (refl, b.1)))), seen.1))
            | inr c ↦ let m = c.1.0 in (m ∷ z ∷ seen.0, (inr (inl (refl, c.1.2)), (inr (inr (inr (inl (refl, c.1.1)))), seen.1)))
          ]
    ]

carried_first : (log : Log) (e : Explanation) (t n y : ℕ) → IsLinked (rules_for all_four).first log e t y → Sees (rules_of Causal) log e t n y
carried_first log e t n y l =
    elim l [
      | inl a ↦ never a.0
      | inr other ↦
          elim other [
            | inl b ↦ ([], inr (inr (inr (inl (refl, b.1)))))
            | inr c ↦ let m = c.1.0 in (m ∷ [], (inr (inl (refl, c.1.2)), inr (inr (inr (inl (refl, c.1.1))))))
          ]
    ]

four : Implies (rules_of Causal) (rules_for all_four)
four log e x =
    weakened (rules_of Causal) (rules_for all_four) log e
    (λ t n y o s.
    sees_so (rules_of Causal) (rules_for all_four) log e t n
    (λ z f.
    elim f [
      | inl a ↦ never a.0
      | inr other ↦ elim other [ inl b ↦ ([], inr (inl (to_is_own log e t n z b))) | inr c ↦ carried_first log e t n z c ]
    ])
    (λ z w seen f.
    elim f [
      | inl p ↦ never p.0
      | inr by ↦ elim by [ inl a ↦ (z ∷ seen.0, (inr (inl (refl, a.1)), seen.1)) | inr c ↦ carried log e t n z w seen c ]
    ])
    y s) x

pub guarantees_imply : GuaranteesImply
guarantees_imply = record {
  causal = four;
  each = (λ g.
      within (rules_for all_four) (rules_for g) (λ on. on) (λ log e t n y s. s)
      (λ on. on, λ on. refl, λ on. refl) (λ on. on) (λ on. refl) (λ on. on, λ on. refl, λ on. refl));
  monotonic_view = (λ g.
      within (rules_for g) (rules_of MonotonicView) (λ on. on) (λ log e t n y s. s)
      (λ on. on, λ on. never on, λ on. never on) (λ on. on) (λ on. never on) (λ on. on, λ on. never on, λ on. never on));
}
