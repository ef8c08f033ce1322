-- What loads is an image of the schedule that it gives.
use Rattle.std.proofs.Common.{◌≡◌, ℕ, ◌+◌, ◌^◌, Bool, true, false, cond, not, List, [], ◌∷◌, ◌++◌, length, Option, Some, None, Result, Ok, Err, refl, sym, ap, subst, ◌∙◌, append_assoc, arith, inl, inr, ◌⊎◌}
use Rattle.std.specs.Prelude.{◌==◌, unwrap_or, is_some}
use Rattle.std.specs.Int.{w8, w16, w32, w64, to_be_bytes}
use Rattle.std.specs.List.{flat_map}
use Rattle.std.specs.Str.{bytes_eq}
use Rattle.std.proofs.lemmas.Bool.{eqb-true, cases_Bool}
use Rattle.std.proofs.lemmas.List.{append-nil}
use Rattle.std.proofs.lemmas.Slice.Eq.{bytes_eq-Decides}
use Rattle.hek_rules.specs.declared.event.Level.{Level}
use Rattle.hek_rules.specs.declared.event.Event.{Event}
use Rattle.hek_rules.specs.declared.kind.EventKind.{EventKind}
use Rattle.hek_rules.specs.declared.kind.EventKind.TheVariants as kind
use Rattle.hek_rules.specs.Events.{event_of, kind_of, opcode_of, kind_coded, txn_of, first_of, second_of}
use Rattle.hek_rules.specs.Plan.{Plan, has_key}
use Rattle.hek_image.specs.declared.fault.LoadFault.{LoadFault}
use Rattle.hek_image.specs.declared.fault.LoadFault.TheVariants.{BadMagic, BadVersion, Trailing}
use Rattle.hek_image.specs.Laws.{IsBytes}
use Rattle.hek_image.specs.Schedules.{magic, front_bytes, count_bytes, row_bytes, txn_bytes, level_byte, step_bytes, image, image_in, HasNoSnapshot}
use Rattle.hek_image.specs.Loading.{Place, Header, checked_read, bytes_at, number_at, number_within, is_within, row_at, txn_at, is_new_name, level_coded, kind_at, is_opcode, step_at, step_txn_fits, first_fits, second_fits, times, magic_at, is_version, image_version, header_at, plan_at, ended, loading}
use Rattle.hek_image.proofs.Wide.{wide16, wide32, wide64}
use Rattle.hek_image.proofs.Levels.{LevelFits, LevelsFit, two_versions, level_back, old_levels_fit}
use Rattle.hek_image.proofs.Steady.{Any}
use Rattle.hek_image.proofs.Taken.{Took, took_then, gave, gave_is, both_ok, checked_ok, required_ok, bytes_ok, number_ok, byte_ok, within_ok, all_added, times_ok}

-- ---- rows
abbrev with_row : Plan → ℕ × ℕ → Plan
with_row p r = record p { rows = p.rows ++ r ∷ [] }

row_ok : (plan : Plan) (p : Place) (after : Plan) (q : Place) → IsBytes p.rest → row_at plan p ≡ gave after q → (r : ℕ × ℕ) × (after ≡ with_row plan r) × Took p (row_bytes r) q × Any r
unfolding row_at
row_ok plan p after q fits e =
    let k = both_ok (checked_read (number_at w64) (λ k. not (has_key plan k))) _ p after q e in
    let key = number_ok w64 (2 ^ 64) wide64 p k.0 k.1 fits (checked_ok (number_at w64) _ p k.0 k.1 k.2).0 in
    let v = both_ok (number_at w64) _ k.1 after q k.3 in
    let val = number_ok w64 (2 ^ 64) wide64 k.1 v.0 v.1 key.bytes v.2 in
    let same = gave_is (with_row plan (k.0, v.0)) after v.1 q v.3 in
    ((k.0, v.0), sym same.0, subst (λ (z : Place). Took p (row_bytes (k.0, v.0)) z) same.1 (took_then p k.1 v.1 (to_be_bytes w64 k.0) (to_be_bytes w64 v.0) key val), tt)

added_rows : (p : Plan) (rs : List (ℕ × ℕ)) → all_added row_at row_bytes with_row Any row_ok p rs ≡ record p { rows = p.rows ++ rs }
added_rows p [] = ap (λ (xs : List (ℕ × ℕ)). record p { rows = xs }) (sym (append-nil p.rows))
added_rows p (r ∷ rs) = added_rows (with_row p r) rs ∙ ap (λ (xs : List (ℕ × ℕ)). record p { rows = xs }) (append_assoc p.rows (r ∷ []) rs)

-- ---- transactions
abbrev with_txn : Plan → List ℕ × Level → Plan
with_txn p t = record p { txns = p.txns ++ t ∷ [] }

txn_ok : (version : ℕ) → is_version version ≡ true → (plan : Plan) (p : Place) (after : Plan) (q : Place) → IsBytes p.rest → txn_at version plan p ≡ gave after q → (t : List ℕ × Level) × (after ≡ with_txn plan t) × Took p (txn_bytes t) q × LevelFits version t
unfolding txn_at
txn_ok version known plan p after q fits e =
    let l = both_ok (number_within 1 (version + 1) w8) _ p after q e in
    let lw = within_ok 1 (version + 1) w8 p l.0 l.1 l.2 in
    let level = byte_ok p l.0 l.1 fits lw.0 in
    let n = both_ok (number_within 1 32 w8) _ l.1 after q l.3 in
    let len = byte_ok l.1 n.0 n.1 level.bytes (within_ok 1 32 w8 l.1 n.0 n.1 n.2).0 in
    let w = both_ok (checked_read (bytes_at n.0) (is_new_name plan)) _ n.1 after q n.3 in
    let name = bytes_ok n.0 n.1 w.0 w.1 len.bytes (checked_ok (bytes_at n.0) (is_new_name plan) n.1 w.0 w.1 w.2).0 in
    let t : List ℕ × Level = (w.0, level_coded l.0) in
    let back : level_byte (level_coded l.0) ≡ l.0 = level_back version l.0 known lw.1 in
    let same = gave_is (with_txn plan t) after w.1 q w.3 in
    let taken : Took p (l.0 ∷ n.0 ∷ w.0) w.1 = took_then p l.1 w.1 (l.0 ∷ []) (n.0 ∷ w.0) level (took_then l.1 n.1 w.1 (n.0 ∷ []) w.0 len name.0) in
    let text : l.0 ∷ n.0 ∷ w.0 ≡ txn_bytes t = ap (λ (b : ℕ). b ∷ n.0 ∷ w.0) (sym back) ∙ ap (λ (b : ℕ). level_byte (level_coded l.0) ∷ b ∷ w.0) (sym name.1) in
    (t, sym same.0, subst (λ (z : Place). Took p (txn_bytes t) z) same.1 (subst (λ (bs : List ℕ). Took p bs w.1) text taken), subst (λ (b : ℕ). is_within 1 (version + 1) b ≡ true) (sym back) lw.1)

added_txns : (version : ℕ) (known : is_version version ≡ true) (p : Plan) (ts : List (List ℕ × Level)) → all_added (txn_at version) txn_bytes with_txn (LevelFits version) (txn_ok version known) p ts ≡ record p { txns = p.txns ++ ts }
added_txns version known p [] = ap (λ (xs : List (List ℕ × Level)). record p { txns = xs }) (sym (append-nil p.txns))
added_txns version known p (t ∷ ts) = added_txns version known (with_txn p t) ts ∙ ap (λ (xs : List (List ℕ × Level)). record p { txns = xs }) (append_assoc p.txns (t ∷ []) ts)

-- ---- steps
abbrev with_event : Plan → Event → Plan
with_event p e = record p { steps = p.steps ++ e ∷ [] }

if_some : (b : Bool) (x : EventKind) (rest : Option EventKind) (k : EventKind) → cond b (Some x) rest ≡ Some k → ((b ≡ true) × (x ≡ k)) ⊎ (rest ≡ Some k)
if_some true x rest k e = inl (refl, cc)
if_some false x rest k e = inr e

by_code : (n m : ℕ) (x k : EventKind) → (n == m) ≡ true → x ≡ k → opcode_of x ≡ m → opcode_of k ≡ n
by_code n m x k e same code = sym (ap opcode_of same) ∙ code ∙ sym (eqb-true n m e)

code_back : (n : ℕ) (k : EventKind) → kind_coded n ≡ Some k → opcode_of k ≡ n
code_back n k e0 =
    elim (if_some (n == 1) kind.Begin _ k e0) [
      | inl h ↦ by_code n 1 kind.Begin k h.0 h.1 refl
      | inr e1 ↦
          elim (if_some (n == 2) kind.Read _ k e1) [
            | inl h ↦ by_code n 2 kind.Read k h.0 h.1 refl
            | inr e2 ↦
                elim (if_some (n == 3) kind.Scan _ k e2) [
                  | inl h ↦ by_code n 3 kind.Scan k h.0 h.1 refl
                  | inr e3 ↦
                      elim (if_some (n == 4) kind.Insert _ k e3) [
                        | inl h ↦ by_code n 4 kind.Insert k h.0 h.1 refl
                        | inr e4 ↦
                            elim (if_some (n == 5) kind.Update _ k e4) [
                              | inl h ↦ by_code n 5 kind.Update k h.0 h.1 refl
                              | inr e5 ↦
                                  elim (if_some (n == 6) kind.Delete _ k e5) [
                                    | inl h ↦ by_code n 6 kind.Delete k h.0 h.1 refl
                                    | inr e6 ↦
                                        elim (if_some (n == 7) kind.Finish _ k e6) [
                                          | inl h ↦ by_code n 7 kind.Finish k h.0 h.1 refl
                                          | inr e7 ↦
                                              elim (if_some (n == 8) kind.Precommit _ k e7) [
                                                | inl h ↦ by_code n 8 kind.Precommit k h.0 h.1 refl
                                                | inr e8 ↦
                                                    elim (if_some (n == 9) kind.Release _ k e8) [
                                                      | inl h ↦ by_code n 9 kind.Release k h.0 h.1 refl
                                                      | inr e9 ↦
                                                          elim (if_some (n == 10) kind.Commit _ k e9) [
                                                            | inl h ↦ by_code n 10 kind.Commit k h.0 h.1 refl
                                                            | inr e10 ↦
                                                                elim (if_some (n == 11) kind.Fail _ k e10) [
                                                                  | inl h ↦ by_code n 11 kind.Fail k h.0 h.1 refl
                                                                  | inr e11 ↦
                                                                      elim (if_some (n == 12) kind.Stamp _ k e11) [
                                                                        | inl h ↦ by_code n 12 kind.Stamp k h.0 h.1 refl
                                                                        | inr e12 ↦
                                                                            elim (if_some (n == 13) kind.End _ k e12) [
                                                                              | inl h ↦ by_code n 13 kind.End k h.0 h.1 refl
                                                                              | inr e13 ↦
                                                                                  elim (if_some (n == 14) kind.Detect _ k e13) [
                                                                                    | inl h ↦ by_code n 14 kind.Detect k h.0 h.1 refl
                                                                                    | inr e14 ↦
                                                                                        absurd cc
                                                                                  ]
                                                                            ]
                                                                      ]
                                                                ]
                                                          ]
                                                    ]
                                              ]
                                        ]
                                  ]
                            ]
                      ]
                ]
          ]
    ]

kind_ok : (p : Place) (k : EventKind) (q : Place) → IsBytes p.rest → kind_at p ≡ gave k q → Took p (opcode_of k ∷ []) q
unfolding kind_at
kind_ok p k q fits e =
    let b = both_ok (checked_read (number_at w8) is_opcode) _ p k q e in
    let c = checked_ok (number_at w8) is_opcode p b.0 b.1 b.2 in
    let same = gave_is (unwrap_or (kind_coded b.0) kind.Detect) k b.1 q b.3 in
    let code : opcode_of k ≡ b.0 = code_back b.0 k (known (kind_coded b.0) k c.1 same.0) in
    subst (λ (z : Place). Took p (opcode_of k ∷ []) z) same.1 (subst (λ (m : ℕ). Took p (m ∷ []) b.1) (sym code) (byte_ok p b.0 b.1 fits c.0))
  where
    known : (o : Option EventKind) (l : EventKind) → is_some o ≡ true → unwrap_or o kind.Detect ≡ l → o ≡ Some l
    known None l h e = absurd cc
    known (Some m) l h e = ap (λ (z : EventKind). Some z) e

-- the parts of a coded step
record Parts (k : EventKind) (t a b : ℕ) : Type 0 where
  pub kind : kind_of (event_of k t a b) ≡ k
  pub txn : unwrap_or (txn_of (event_of k t a b)) 0 ≡ t
  pub first : first_of (event_of k t a b) ≡ a
  pub second : second_of (event_of k t a b) ≡ b

parts : (plan : Plan) (k : EventKind) (t a b : ℕ) → step_txn_fits plan k t ≡ true → first_fits plan k a ≡ true → second_fits k b ≡ true → Parts k t a b
parts plan kind.Begin t a b x y z = record { kind = refl; txn = refl; first = sym (eqb-true a 0 y); second = sym (eqb-true b 0 z) }
parts plan kind.Read t a b x y z = record { kind = refl; txn = refl; first = refl; second = sym (eqb-true b 0 z) }
parts plan kind.Scan t a b x y z = record { kind = refl; txn = refl; first = refl; second = sym (eqb-true b 0 z) }
parts plan kind.Insert t a b x y z = record { kind = refl; txn = refl; first = refl; second = refl }
parts plan kind.Update t a b x y z = record { kind = refl; txn = refl; first = refl; second = refl }
parts plan kind.Delete t a b x y z = record { kind = refl; txn = refl; first = refl; second = sym (eqb-true b 0 z) }
parts plan kind.Finish t a b x y z = record { kind = refl; txn = refl; first = sym (eqb-true a 0 y); second = sym (eqb-true b 0 z) }
parts plan kind.Precommit t a b x y z = record { kind = refl; txn = refl; first = sym (eqb-true a 0 y); second = sym (eqb-true b 0 z) }
parts plan kind.Release t a b x y z = record { kind = refl; txn = refl; first = sym (eqb-true a 0 y); second = sym (eqb-true b 0 z) }
parts plan kind.Commit t a b x y z = record { kind = refl; txn = refl; first = sym (eqb-true a 0 y); second = sym (eqb-true b 0 z) }
parts plan kind.Fail t a b x y z = record { kind = refl; txn = refl; first = sym (eqb-true a 0 y); second = sym (eqb-true b 0 z) }
parts plan kind.Stamp t a b x y z = record { kind = refl; txn = refl; first = sym (eqb-true a 0 y); second = sym (eqb-true b 0 z) }
parts plan kind.End t a b x y z = record { kind = refl; txn = refl; first = sym (eqb-true a 0 y); second = sym (eqb-true b 0 z) }
parts plan kind.Detect t a b x y z = record { kind = refl; txn = sym (eqb-true t 0 x); first = sym (eqb-true a 0 y); second = sym (eqb-true b 0 z) }

step_ok : (plan : Plan) (p : Place) (after : Plan) (q : Place) → IsBytes p.rest → step_at plan p ≡ gave after q → (e : Event) × (after ≡ with_event plan e) × Took p (step_bytes e) q × Any e
unfolding step_at
step_ok plan p after q fits e =
    let k = both_ok kind_at _ p after q e in
    let code = kind_ok p k.0 k.1 fits k.2 in
    let t = both_ok (checked_read (number_at w32) (step_txn_fits plan k.0)) _ k.1 after q k.3 in
    let tc = checked_ok (number_at w32) (step_txn_fits plan k.0) k.1 t.0 t.1 t.2 in
    let txn = number_ok w32 (2 ^ 32) wide32 k.1 t.0 t.1 code.bytes tc.0 in
    let a = both_ok (checked_read (number_at w64) (first_fits plan k.0)) _ t.1 after q t.3 in
    let ac = checked_ok (number_at w64) (first_fits plan k.0) t.1 a.0 a.1 a.2 in
    let first = number_ok w64 (2 ^ 64) wide64 t.1 a.0 a.1 txn.bytes ac.0 in
    let b = both_ok (checked_read (number_at w64) (second_fits k.0)) _ a.1 after q a.3 in
    let bc = checked_ok (number_at w64) (second_fits k.0) a.1 b.0 b.1 b.2 in
    let second = number_ok w64 (2 ^ 64) wide64 a.1 b.0 b.1 first.bytes bc.0 in
    let event : Event = event_of k.0 t.0 a.0 b.0 in
    let same = gave_is (with_event plan event) after b.1 q b.3 in
    let are = parts plan k.0 t.0 a.0 b.0 tc.1 ac.1 bc.1 in
    let taken : Took p (opcode_of k.0 ∷ to_be_bytes w32 t.0 ++ (to_be_bytes w64 a.0 ++ to_be_bytes w64 b.0)) b.1 =
    took_then p k.1 b.1 (opcode_of k.0 ∷ []) (to_be_bytes w32 t.0 ++ (to_be_bytes w64 a.0 ++ to_be_bytes w64 b.0)) code
    (took_then k.1 t.1 b.1 (to_be_bytes w32 t.0) (to_be_bytes w64 a.0 ++ to_be_bytes w64 b.0) txn
    (took_then t.1 a.1 b.1 (to_be_bytes w64 a.0) (to_be_bytes w64 b.0) first second)) in
    let whole : Took p (step_bytes event) b.1 =
    subst (λ (l : EventKind). Took p (opcode_of l ∷ to_be_bytes w32 (unwrap_or (txn_of event) 0) ++ (to_be_bytes w64 (first_of event) ++ to_be_bytes w64 (second_of event))) b.1) (sym are.kind)
    (subst (λ (m : ℕ). Took p (opcode_of k.0 ∷ to_be_bytes w32 m ++ (to_be_bytes w64 (first_of event) ++ to_be_bytes w64 (second_of event))) b.1) (sym are.txn)
    (subst (λ (m : ℕ). Took p (opcode_of k.0 ∷ to_be_bytes w32 t.0 ++ (to_be_bytes w64 m ++ to_be_bytes w64 (second_of event))) b.1) (sym are.first)
    (subst (λ (m : ℕ). Took p (opcode_of k.0 ∷ to_be_bytes w32 t.0 ++ (to_be_bytes w64 a.0 ++ to_be_bytes w64 m)) b.1) (sym are.second) taken))) in
    (event, sym same.0, subst (λ (z : Place). Took p (step_bytes event) z) same.1 whole, tt)

added_steps : (p : Plan) (es : List Event) → all_added step_at step_bytes with_event Any step_ok p es ≡ record p { steps = p.steps ++ es }
added_steps p [] = ap (λ (xs : List Event). record p { steps = xs }) (sym (append-nil p.steps))
added_steps p (e ∷ es) = added_steps (with_event p e) es ∙ ap (λ (xs : List Event). record p { steps = xs }) (append_assoc p.steps (e ∷ []) es)

-- ---- the header
magic_ok : (p : Place) (m : List ℕ) (q : Place) → IsBytes p.rest → magic_at p ≡ gave m q → Took p magic q
unfolding magic_at
magic_ok p m q fits e =
    let c = required_ok (bytes_at 4) (λ w. bytes_eq w magic) BadMagic p m q e in
    subst (λ (w : List ℕ). Took p w q) ((bytes_eq-Decides m magic).0 c.1) (bytes_ok 4 p m q fits c.0).0

version_ok : (p : Place) (n : ℕ) (q : Place) → IsBytes p.rest → image_version p ≡ gave n q → Took p (to_be_bytes w16 n) q × (is_version n ≡ true)
unfolding image_version
version_ok p n q fits e =
    let c = required_ok (number_at w16) is_version BadVersion p n q e in
    (number_ok w16 (2 ^ 16) wide16 p n q fits c.0, c.1)

count_ok : (low high : ℕ) (p : Place) (n : ℕ) (q : Place) → IsBytes p.rest → number_within low high w32 p ≡ gave n q → Took p (to_be_bytes w32 n) q
count_ok low high p n q fits e = number_ok w32 (2 ^ 32) wide32 p n q fits (within_ok low high w32 p n q e).0

abbrev begun : ℕ → Plan
begun n = record { buckets = n; rows = []; txns = []; steps = [] }

abbrev head_bytes : Plan × Header → List ℕ
head_bytes h = magic ++ (to_be_bytes w16 h.1.version ++ (to_be_bytes w32 h.0.buckets ++ (to_be_bytes w32 h.1.rows ++ (to_be_bytes w32 h.1.txns ++ to_be_bytes w32 h.1.steps))))

header_ok : (p : Place) (h : Plan × Header) (q : Place) → IsBytes p.rest → header_at p ≡ gave h q → Took p (head_bytes h) q × (h.0 ≡ begun h.0.buckets) × (is_version h.1.version ≡ true)
unfolding header_at
header_ok p h q fits e =
    let m = both_ok magic_at _ p h q e in
    let m_took = magic_ok p m.0 m.1 fits m.2 in
    let v = both_ok image_version _ m.1 h q m.3 in
    let version = version_ok m.1 v.0 v.1 m_took.bytes v.2 in
    let v_took = version.0 in
    let b = both_ok (number_within 1 1024 w32) _ v.1 h q v.3 in
    let b_took = count_ok 1 1024 v.1 b.0 b.1 v_took.bytes b.2 in
    let r = both_ok (number_within 0 65536 w32) _ b.1 h q b.3 in
    let r_took = count_ok 0 65536 b.1 r.0 r.1 b_took.bytes r.2 in
    let t = both_ok (number_within 0 1024 w32) _ r.1 h q r.3 in
    let t_took = count_ok 0 1024 r.1 t.0 t.1 r_took.bytes t.2 in
    let s = both_ok (number_within 0 1000000 w32) _ t.1 h q t.3 in
    let s_took = count_ok 0 1000000 t.1 s.0 s.1 t_took.bytes s.2 in
    let head : Plan × Header = (begun b.0, record { version = v.0; rows = r.0; txns = t.0; steps = s.0 }) in
    let same = gave_is head h s.1 q s.3 in
    let txns = to_be_bytes w32 t.0 in
    let steps = to_be_bytes w32 s.0 in
    let rows = to_be_bytes w32 r.0 in
    let buckets = to_be_bytes w32 b.0 in
    let taken : Took p (head_bytes head) s.1 =
    took_then p m.1 s.1 magic (to_be_bytes w16 v.0 ++ (buckets ++ (rows ++ (txns ++ steps)))) m_took
    (took_then m.1 v.1 s.1 (to_be_bytes w16 v.0) (buckets ++ (rows ++ (txns ++ steps))) v_took
    (took_then v.1 b.1 s.1 buckets (rows ++ (txns ++ steps)) b_took
    (took_then b.1 r.1 s.1 rows (txns ++ steps) r_took
    (took_then r.1 t.1 s.1 txns steps t_took s_took)))) in
    subst (λ (z : Plan × Header). Took p (head_bytes z) q × (z.0 ≡ begun z.0.buckets) × (is_version z.1.version ≡ true)) same.0 (subst (λ (z : Place). Took p (head_bytes head) z) same.1 taken, refl, version.1)

-- ---- the whole
-- the bytes up to q are an image of the plan, and the image's version has all levels of the plan
record IsImage (p : Place) (plan : Plan) (q : Place) : Type 0 where
  pub version : ℕ
  pub known : is_version version ≡ true
  pub levels : LevelsFit version plan.txns
  pub took : Took p (image_in version plan) q

plan_ok : (p : Place) (plan : Plan) (q : Place) → IsBytes p.rest → plan_at p ≡ gave plan q → IsImage p plan q
unfolding plan_at
plan_ok p plan q fits e =
    let h = both_ok header_at _ p plan q e in
    let head = header_ok p h.0 h.1 fits h.2 in
    let v = h.0.1.version in
    let known = head.2 in
    let r = both_ok (times h.0.1.rows row_at h.0.0) _ h.1 plan q h.3 in
    let rows = times_ok row_at row_bytes with_row Any row_ok h.0.1.rows h.0.0 h.1 r.0 r.1 head.0.bytes r.2 in
    let t = both_ok (times h.0.1.txns (txn_at v) r.0) _ r.1 plan q r.3 in
    let txns = times_ok (txn_at v) txn_bytes with_txn (LevelFits v) (txn_ok v known) h.0.1.txns r.0 r.1 t.0 t.1 rows.3.bytes t.2 in
    let steps = times_ok step_at step_bytes with_event Any step_ok h.0.1.steps t.0 t.1 plan q txns.3.bytes t.3 in
    let n = h.0.0.buckets in
    let p1 : r.0 ≡ record (begun n) { rows = rows.0 } = rows.2 ∙ added_rows h.0.0 rows.0 ∙ ap (λ (z : Plan). record z { rows = z.rows ++ rows.0 }) head.1 in
    let p2 : t.0 ≡ record (begun n) { rows = rows.0; txns = txns.0 } = txns.2 ∙ added_txns v known r.0 txns.0 ∙ ap (λ (z : Plan). record z { txns = z.txns ++ txns.0 }) p1 in
    let p3 : plan ≡ record { buckets = n; rows = rows.0; txns = txns.0; steps = steps.0 } = steps.2 ∙ added_steps t.0 steps.0 ∙ ap (λ (z : Plan). record z { steps = z.steps ++ steps.0 }) p2 in
    let made : Plan = record { buckets = n; rows = rows.0; txns = txns.0; steps = steps.0 } in
    let told : Header = record { version = v; rows = length rows.0; txns = length txns.0; steps = length steps.0 } in
    let same : h.0.1 ≡ told = head_same h.0.1 (length rows.0) (length txns.0) (length steps.0) (sym rows.1) (sym txns.1) (sym steps.1) in
    let front : Took p (head_bytes (made, told)) h.1 = subst (λ (c : Header). Took p (head_bytes (made, c)) h.1) same head.0 in
    let all_rows = flat_map row_bytes rows.0 in
    let all_txns = flat_map txn_bytes txns.0 in
    let all_steps = flat_map step_bytes steps.0 in
    let taken : Took p (image_in v made) q =
    took_then p h.1 q (front_bytes v n ++ count_bytes made) (all_rows ++ (all_txns ++ all_steps)) front
    (took_then h.1 r.1 q all_rows (all_txns ++ all_steps) rows.3
    (took_then r.1 t.1 q all_txns all_steps txns.3 steps.3)) in
    subst (λ (z : Plan). IsImage p z q) (sym p3) (record { version = v; known = known; levels = txns.4; took = taken })
  where
    head_same : (c : Header) (x y z : ℕ) → c.rows ≡ x → c.txns ≡ y → c.steps ≡ z → c ≡ record { version = c.version; rows = x; txns = y; steps = z }
    head_same c x y z e f g =
        ap (λ (n : ℕ). record { version = c.version; rows = n; txns = c.txns; steps = c.steps }) e
        ∙ ap (λ (n : ℕ). record { version = c.version; rows = x; txns = n; steps = c.steps }) f
        ∙ ap (λ (n : ℕ). record { version = c.version; rows = x; txns = y; steps = n }) g

ended_ok : (r : Result (Plan × Place) LoadFault) (plan : Plan) → ended r ≡ Ok plan → (q : Place) × (r ≡ gave plan q) × (q.rest ≡ [])
ended_ok (Ok x) plan e = elim (cases_Bool (length x.1.rest == 0)) [
  | inl h ↦
      let is : ended (Ok x) ≡ Ok x.0 = rw h refl in
      let same : x.0 ≡ plan = cc in
      (x.1, ap (λ (z : Plan). gave z x.1) same, nothing x.1.rest (eqb-true (length x.1.rest) 0 h))
  | inr h ↦
      let is : ended (Ok x) ≡ Err Trailing = rw h refl in
      absurd cc
]
  where
    nothing : (xs : List ℕ) → length xs ≡ 0 → xs ≡ []
    nothing [] h = refl
    nothing (y ∷ ys) h = absurd (omega arith)
ended_ok (Err d) plan e = absurd cc

pub image_only : (bytes : List ℕ) (p : Plan) → IsBytes bytes → loading bytes ≡ Ok p → (bytes ≡ image p) ⊎ (HasNoSnapshot p × (bytes ≡ image_in 1 p))
unfolding loading
image_only bytes p fits e =
    let start : Place = record { at = 0; rest = bytes } in
    let end = ended_ok (plan_at start) p e in
    let is = plan_ok start p end.0 fits end.1 in
    let v = is.version in
    let same : bytes ≡ image_in v p = is.took.parts ∙ ap (λ (bs : List ℕ). image_in v p ++ bs) end.2 ∙ append-nil (image_in v p) in
    elim (two_versions v is.known) [
      | inl two ↦ inl (same ∙ ap (λ (n : ℕ). image_in n p) two)
      | inr one ↦ inr (old_levels_fit p (subst (λ (n : ℕ). LevelsFit n p.txns) one is.levels), same ∙ ap (λ (n : ℕ). image_in n p) one)
    ]
