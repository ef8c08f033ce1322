-- Twins that are at the same places have one shape.
use Rattle.std.proofs.Common.{◌≡◌, ℕ, suc, zero, ◌+◌, ◌<◌, Bool, true, List, [], ◌∷◌, ◌++◌, Some, None, length, refl, ap, sym, subst, ◌∙◌, map, arith, ⊎_elim}
use Rattle.std.proofs.lemmas.Bool.{cases_Bool, cond-true, cond-false, lt-ltb}
use Rattle.std.specs.Prelude.{◌&&◌, nat_lt, if◌then◌else◌}
use Rattle.hek_rules.specs.declared.word.EndRecord.{EndRecord}
use Rattle.hek_rules.specs.declared.word.EndRecord.TheVariants.{Until}
use Rattle.hek_rules.specs.Plan.{Plan, IsPlan}
use Rattle.hek_rules.specs.Shown.{begin_word, end_word, end_word_by, read_set, write_set, bucket_set, waiting_list, dependents_of}
use Rattle.hek_rules.specs.Waits.{readers}
use Rattle.hek_rules.specs.Words.{infinity}
use Rattle.hek_rules.specs.World.{World, Version, Txn, Ender, EndedAt, Held, txn_in, version_in, is_prepared}
use Rattle.hek_laws.specs.Sound.{Sound, IsSoundEnder}
use Rattle.hek_laws.proofs.Runs.Reachable.{reachable-sound}
use Rattle.hek_similar.specs.Canonical.{canonical}
use Rattle.hek_similar.specs.Forms.{After}
use Rattle.hek_similar.specs.Holdings.{Regrouped}
use Rattle.hek_similar.specs.Similar.{Similar, LookAlike, timeless_ender, timeless_version, timeless_txn, made_time, looks_back}
use Rattle.hek_similar.specs.Verdicts.{judged_part, drawn_in}
use Rattle.hek_similar.proofs.Lists.{same-txn, same-version, same-length}
use Rattle.hek_similar.proofs.Data.{and-same}
use Rattle.hek_similar.proofs.Forms.{form-similar, similar-itself}
use Rattle.hek_similar.proofs.Holdings.Grouped.{regrouped-by_txn}
use Rattle.hek_similar.proofs.Holdings.Judged.{held}
use Rattle.hek_similar.proofs.Holdings.Pairs.{like-count}
use Rattle.hek_similar.proofs.Holdings.Sound.{sound-regrouped}
use Rattle.hek_similar.proofs.Places.Canonical.{canonical-forms-decide}
use Rattle.hek_worker.specs.declared.entry.Entry.{Entry}
use Rattle.hek_permute.specs.declared.moves.Form.{Form}
use Rattle.hek_permute.specs.declared.play.Place.{Place}
use Rattle.hek_permute.specs.Moves.{Work}
use Rattle.hek_permute.specs.Outcomes.{end_in, has_wait}
use Rattle.hek_explore.specs.declared.key.VersionKey.{VersionKey}
use Rattle.hek_explore.specs.Groups.{group_in}
use Rattle.hek_explore.specs.Keys.{list_upto, timeless_end, until_time, version_key, after_time, look_of, TxnShape, txn_shape, Shape, shape_in, shape_of, sorted_by}
use Rattle.hek_explore.specs.Twins.{world_after, steps_in, HasPlayed, AreTwins}
use Rattle.hek_explore.proofs.Extended.{world-reachable}
use Rattle.hek_explore.proofs.Keys.{ended-until, sorted-sound}

upto-alike : {X : Type 0} (f g : ℕ → X) (n : ℕ) → ((i : ℕ) → f i ≡ g i) → list_upto f n ≡ list_upto g n
upto-alike {X} f g zero same = refl
upto-alike {X} f g (suc n) same = ap (λ (l : List X). l ++ f n ∷ []) (upto-alike f g n same) ∙ ap (λ (x : X). list_upto g n ++ x ∷ []) (same n)

upto-both : {X : Type 0} (f g : ℕ → X) (n m : ℕ) → n ≡ m → ((i : ℕ) → f i ≡ g i) → list_upto f n ≡ list_upto g m
upto-both f g n m e same = upto-alike f g n same ∙ ap (list_upto g) e

end-same : (w x : World) (count : ℕ) (e f : Ender) → IsSoundEnder w e → IsSoundEnder x f → w.clock < infinity → x.clock < infinity → timeless_ender e ≡ timeless_ender f
    → timeless_end (end_word_by count e) ≡ timeless_end (end_word_by count f)
end-same w x count (EndedAt a) (EndedAt b) s r h k same =
    let here : nat_lt a infinity ≡ true = lt-ltb a infinity (omega (arith, s, h)) in
    let there : nat_lt b infinity ≡ true = lt-ltb b infinity (omega (arith, r, k)) in
    ap (λ c. Until (if c then 0 else infinity)) (here ∙ sym there)
end-same w x count (EndedAt a) (Held writer no_more) s r h k same = absurd (cc)
end-same w x count (Held writer no_more) (EndedAt b) s r h k same = absurd (cc)
end-same w x count (Held writer no_more) (Held other more) s r h k same = ap (λ e. timeless_end (end_word_by count e)) same

module _ (w m x : World) (sw : Sound w) (sx : Sound x) (regrouped : Regrouped w m) (similar : Similar m x) where
  vers : map timeless_version w.versions ≡ map timeless_version x.versions
  vers = ap (λ (l : List Version). map timeless_version l) regrouped.versions ∙ ap (λ (y : World). y.versions) similar.same

  txns : map timeless_txn w.txns ≡ map timeless_txn x.txns
  txns = ap (λ (l : List Txn). map timeless_txn l) regrouped.txns ∙ ap (λ (y : World). y.txns) similar.same

  pub same-versions : length w.versions ≡ length x.versions
  same-versions = same-length timeless_version w.versions x.versions vers

  pub same-txns : length w.txns ≡ length x.txns
  same-txns = same-length timeless_txn w.txns x.txns txns

  at-version : (v : ℕ) → timeless_version (version_in w.versions v) ≡ timeless_version (version_in x.versions v)
  at-version v = same-version w.versions x.versions vers v

  at-txn : (t : ℕ) → timeless_txn (txn_in w.txns t) ≡ timeless_txn (txn_in x.txns t)
  at-txn t = same-txn w.txns x.txns txns t

  same-readers : (v : ℕ) → readers w.read_locks v ≡ readers x.read_locks v
  same-readers v = like-count w.read_locks m.read_locks (held w m regrouped).read_locks v ∙ ap (λ (y : World). readers y.read_locks v) similar.same

  same-end : (v : ℕ) → timeless_end (end_word w v) ≡ timeless_end (end_word x v)
  same-end v =
      ap (λ n. timeless_end (end_word_by n (version_in w.versions v).ender)) (same-readers v)
      ∙ end-same w x (readers x.read_locks v) (version_in w.versions v).ender (version_in x.versions v).ender (sw.enders v) (sx.enders v) sw.bounded sx.bounded (ap (λ (z : Version). z.ender) (at-version v))

  pub same-key : (v : ℕ) → version_key w v ≡ version_key x v
  same-key v =
      ap {A = Version} {B = VersionKey} (λ z. record { key = z.key; value = z.value; begin = z.creator; end = timeless_end (end_word w v) }) (at-version v)
      ∙ ap {A = EndRecord} {B = VersionKey} (λ z. record (version_key x v) { end = z }) (same-end v)

  -- what a transaction finds before its begin and after it
  look-alike : (t : ℕ) → looks_back (txn_in w.txns t) ≡ true → LookAlike w.versions x.versions w.txns x.txns (txn_in w.txns t).begin (txn_in x.txns t).begin
  look-alike t l =
      let there : looks_back (txn_in m.txns t) ≡ true = ap (λ (ts : List Txn). looks_back (txn_in ts t)) (sym regrouped.txns) ∙ l in
      subst (λ (vs : List Version). LookAlike vs x.versions w.txns x.txns (txn_in w.txns t).begin (txn_in x.txns t).begin) (sym regrouped.versions)
      (subst (λ (ts : List Txn). LookAlike m.versions x.versions ts x.txns (txn_in ts t).begin (txn_in x.txns t).begin) (sym regrouped.txns) (similar.looks t there))

  same-after : (t : ℕ) → looks_back (txn_in w.txns t) ≡ true → after_time w (txn_in w.txns t).begin ≡ after_time x (txn_in x.txns t).begin
  same-after t l =
      let r : ℕ = (txn_in w.txns t).begin in
      let q : ℕ = (txn_in x.txns t).begin in
      let k : LookAlike w.versions x.versions w.txns x.txns (txn_in w.txns t).begin (txn_in x.txns t).begin = look-alike t l in
      let made : list_upto (λ v. nat_lt (txn_in w.txns t).begin (made_time (begin_word w v))) (length w.versions) ≡ list_upto (λ v. nat_lt (txn_in x.txns t).begin (made_time (begin_word x v))) (length x.versions) =
      upto-both _ _ (length w.versions) (length x.versions) same-versions k.made in
      let ended : list_upto (λ v. nat_lt (txn_in w.txns t).begin (until_time (end_word w v))) (length w.versions) ≡ list_upto (λ v. nat_lt (txn_in x.txns t).begin (until_time (end_word x v))) (length x.versions) =
      upto-both _ _ (length w.versions) (length x.versions) same-versions
      (λ v. ap (nat_lt (txn_in w.txns t).begin) (sym (ended-until w (readers w.read_locks v) (version_in w.versions v).ender (sw.enders v) sw.bounded)) ∙ k.ended v
      ∙ ap (nat_lt (txn_in x.txns t).begin) (ended-until x (readers x.read_locks v) (version_in x.versions v).ender (sx.enders v) sx.bounded)) in
      let prepared : list_upto (λ i. is_prepared (txn_in w.txns (i + 1)).state && nat_lt (txn_in w.txns t).begin (txn_in w.txns (i + 1)).end) (length w.txns)
      ≡ list_upto (λ i. is_prepared (txn_in x.txns (i + 1)).state && nat_lt (txn_in x.txns t).begin (txn_in x.txns (i + 1)).end) (length x.txns) =
      upto-both _ _ (length w.txns) (length x.txns) same-txns
      (λ i. and-same (is_prepared (txn_in w.txns (i + 1)).state) _ _ (k.prepared (i + 1))
      ∙ ap (λ (z : Txn). is_prepared z.state && nat_lt (txn_in x.txns t).begin (txn_in x.txns (i + 1)).end) (at-txn (i + 1))) in
      ap {A = List Bool} {B = After} (λ l. record (after_time w (txn_in w.txns t).begin) { made = l }) made
      ∙ ap {A = List Bool} {B = After} (λ l. record { made = (after_time x (txn_in x.txns t).begin).made; ended = l; prepared = (after_time w (txn_in w.txns t).begin).prepared }) ended
      ∙ ap {A = List Bool} {B = After} (λ l. record (after_time x (txn_in x.txns t).begin) { prepared = l }) prepared

  same-look : (t : ℕ) → look_of w t ≡ look_of x t
  same-look t =
      let b : looks_back (txn_in w.txns t) ≡ looks_back (txn_in x.txns t) = ap looks_back (at-txn t) in
      ⊎_elim
      (λ l. cond-true _ (Some (after_time w (txn_in w.txns t).begin)) None l ∙ ap Some (same-after t l) ∙ sym (cond-true _ (Some (after_time x (txn_in x.txns t).begin)) None (sym b ∙ l)))
      (λ n. cond-false _ (Some (after_time w (txn_in w.txns t).begin)) None n ∙ sym (cond-false _ (Some (after_time x (txn_in x.txns t).begin)) None (sym b ∙ n)))
      (cases_Bool (looks_back (txn_in w.txns t)))

  -- the shape of a transaction, of w and then of x part by part
  abbrev first : List Entry → ℕ → TxnShape
  first h t = record (txn_shape w h t) { level = (txn_in x.txns t).level; state = (txn_in x.txns t).state; no_more_waits = (txn_in x.txns t).no_more_waits; abort_now = (txn_in x.txns t).abort_now }

  abbrev second : List Entry → ℕ → TxnShape
  second h t = record (first h t) { reads = read_set x t; writes = write_set x t; buckets = bucket_set x t }

  pub same-shape : (h k : List Entry) (t : ℕ) → judged_part t (steps_in h) ≡ judged_part t (steps_in k) → end_in t h ≡ end_in t k → txn_shape w h t ≡ txn_shape x k t
  same-shape h k t part ends =
      ap {A = Txn} {B = TxnShape} (λ z. record (txn_shape w h t) { level = z.level; state = z.state; no_more_waits = z.no_more_waits; abort_now = z.abort_now }) (at-txn t)
      ∙ ap (λ l. record (first h t) { reads = l }) (regrouped.read_sets t ∙ ap (λ (y : World). read_set y t) similar.same)
      ∙ ap (λ l. record (first h t) { reads = read_set x t; writes = l }) (regrouped.write_sets t ∙ ap (λ (y : World). write_set y t) similar.same)
      ∙ ap (λ l. record (first h t) { reads = read_set x t; writes = write_set x t; buckets = l }) (regrouped.bucket_sets t ∙ ap (λ (y : World). bucket_set y t) similar.same)
      ∙ ap (λ l. record (second h t) { waiters = l }) (regrouped.waiting_lists t ∙ ap (λ (y : World). waiting_list y t) similar.same)
      ∙ ap (λ l. record (second h t) { waiters = waiting_list x t; dependents = l }) (regrouped.dependents t ∙ ap (λ (y : World). dependents_of y t) similar.same)
      ∙ ap (λ l. record (second h t) { waiters = waiting_list x t; dependents = dependents_of x t; look = l }) (same-look t)
      ∙ ap (λ l. record (txn_shape x k t) { part = l; ending = end_in t h }) part
      ∙ ap (λ l. record (txn_shape x k t) { ending = l }) ends

-- ---- keys
-- worlds that are regrouped, then similar, have one key if the histories told and ended the same
module _ (w m x : World) (sw : Sound w) (sx : Sound x) (regrouped : Regrouped w m) (similar : Similar m x) where
  same-in : (places : List Place) (h k : List Entry) → ((t : ℕ) → judged_part t (steps_in h) ≡ judged_part t (steps_in k)) → ((t : ℕ) → end_in t h ≡ end_in t k)
      → drawn_in (steps_in h) ≡ drawn_in (steps_in k) → has_wait h ≡ has_wait k → shape_in w places h ≡ shape_in x places k
  same-in places h k parts ends drawn waited =
      let versions : list_upto (version_key w) (length w.versions) ≡ list_upto (version_key x) (length x.versions) =
      upto-both _ _ _ _ (same-versions w m x sw sx regrouped similar) (same-key w m x sw sx regrouped similar) in
      let txns : list_upto (λ i. txn_shape w h (i + 1)) (length w.txns) ≡ list_upto (λ i. txn_shape x k (i + 1)) (length x.txns) =
      upto-both _ _ _ _ (same-txns w m x sw sx regrouped similar) (λ i. same-shape w m x sw sx regrouped similar h k (i + 1) (parts (i + 1)) (ends (i + 1))) in
      ap {A = List VersionKey} {B = Shape} (λ l. record (shape_in w places h) { versions = l }) versions
      ∙ ap {A = List TxnShape} {B = Shape} (λ l. record (shape_in w places h) { versions = (shape_in x places k).versions; txns = l }) txns
      ∙ ap {A = List ℕ} {B = Shape} (λ l. record (shape_in x places k) { drawn = l; waited = has_wait h }) drawn
      ∙ ap {A = Bool} {B = Shape} (λ b. record (shape_in x places k) { waited = b }) waited

pub twins-shape : (p : Plan) (form : Form) (works : List Work) (past others : List ℕ) (places : List Place) (h k : List Entry) → IsPlan p → HasPlayed p form works past places h
    → HasPlayed p form works others places k → AreTwins p h k → shape_of p places h ≡ shape_of p places k
twins-shape p form works past others places h k plan first other twins =
    let w : World = sorted_by (group_in p) (world_after p h) in
    let x : World = sorted_by (group_in p) (world_after p k) in
    let here : Sound (world_after p h) = reachable-sound (world_after p h) (world-reachable p h plan first.placed) in
    let there : Sound (world_after p k) = reachable-sound (world_after p k) (world-reachable p k plan other.placed) in
    let sw : Sound w = sorted-sound (group_in p) (world_after p h) here in
    let sx : Sound x = sorted-sound (group_in p) (world_after p k) there in
    let gw : Regrouped w (canonical (group_in p) (world_after p h)) = regrouped-by_txn w sw in
    let gx : Regrouped x (canonical (group_in p) (world_after p k)) = regrouped-by_txn x sx in
    let cw : Sound (canonical (group_in p) (world_after p h)) = sound-regrouped w (canonical (group_in p) (world_after p h)) gw sw in
    let cx : Sound (canonical (group_in p) (world_after p k)) = sound-regrouped x (canonical (group_in p) (world_after p k)) gx sx in
    same-in w (canonical (group_in p) (world_after p h)) (canonical (group_in p) (world_after p k)) sw cx gw
    (form-similar (canonical (group_in p) (world_after p h)) (canonical (group_in p) (world_after p k)) cw cx ((canonical-forms-decide (group_in p) (world_after p h) (world_after p k) here there).1 twins.worlds))
    places h k twins.told.parts twins.ends twins.told.drawn twins.waited
    ∙ sym (same-in x (canonical (group_in p) (world_after p k)) (canonical (group_in p) (world_after p k)) sx cx gx (similar-itself (canonical (group_in p) (world_after p k))) places k k (λ t. refl) (λ t. refl) refl refl)
