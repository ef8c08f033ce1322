-- Full transcripts, and where they can be cut.
use Rattle.std.proofs.Common.{◌≡◌, ℕ, zero, suc, ◌+◌, ◌-◌, ◌≤◌, List, [], ◌∷◌, ◌++◌, true, false, Some, refl, sym, subst, ◌∙◌, arith, length, IsTrue, drop, append_assoc}
use Rattle.std.specs.Prelude.{map}
use Rattle.std.specs.List.{AllByRecursion, AllZip, zip, flat_map}
use Rattle.hek_rules.specs.declared.event.Event.{Event}
use Rattle.hek_rules.specs.declared.event.Event.TheVariants.{Begin, Read, Scan, Insert, Update, Delete, Finish, Precommit, Release, Commit, Stamp, End}
use Rattle.hek_rules.specs.declared.reply.Reply.{Reply}
use Rattle.hek_rules.specs.declared.reply.Reply.TheVariants.{Began, Absent, Rows, Done, Ready, Precommitted, Nothing, Committed, Over, Aborted}
use Rattle.hek_worker.specs.declared.stage.Stage.{Stage}
use Rattle.hek_worker.specs.declared.stage.Stage.TheVariants.{Start, Working, Preparing, Releasing, Committing, Stamping, Ending}
use Rattle.hek_worker.specs.declared.stage.Position.{Position}
use Rattle.hek_worker.specs.Grammar.{event_at, after_start, answers, begin_at, end_at, is_work}
use Rattle.hek_worker.specs.Forms.{IsFull, StandsNext, each, look, pend}
use Rattle.hek_worker.proofs.Wholes.{good, may_stop, spot, Whole, moved, whole_leads, whole_append}
use Rattle.hek_worker.proofs.Pieces.{no_end, stamps, stamped_back, last_one, last_back, commits, committed_back, releases, released_back}
use Rattle.hek_worker.proofs.Works.{works, worked_back, looks, looked_back}

began : (t : ℕ) (work : List Event) (n left : ℕ) (xs : List (Event × Reply)) (r : Reply) (m : Position) → after_start n r ≡ Some m → IsTrue (good m.stage) → Whole t work m xs (end_at left)
    → (time : ℕ) × (r ≡ Began time) × Whole t work (spot (Working 0) n) xs (end_at left)
began t work n left xs (Began time) m h g w = (time, refl, moved (λ (p : Position). Whole t work p xs (end_at left)) (Working 0) n m h w)
began t work n left xs (Aborted c) m h g w = let bad : IsTrue (good (Releasing true)) = moved (λ (p : Position). IsTrue (good p.stage)) (Releasing true) n m h g in absurd (cc)
began t work n left xs r m h g w = absurd (cc)

regroup : {A : Type 0} (b f p r c s : A) (z l g d k e : List A)
    → b ∷ (z ++ f ∷ (l ++ p ∷ (g ++ r ∷ (d ++ c ∷ (k ++ s ∷ e))))) ≡ b ∷ z ++ f ∷ l ++ p ∷ g ++ r ∷ d ++ c ∷ k ++ s ∷ e
regroup b f p r c s z l g d k e = simp append_assoc

joins : {A : Type 0} (b f p r c s x : A) (z l g d k e ys ws ls rs cs ss : List A) → x ≡ b → ys ≡ z ++ f ∷ ws → ws ≡ l ++ p ∷ ls → ls ≡ g ++ r ∷ rs → rs ≡ d ++ c ∷ cs → cs ≡ k ++ s ∷ ss → ss ≡ e
    → x ∷ ys ≡ b ∷ (z ++ f ∷ (l ++ p ∷ (g ++ r ∷ (d ++ c ∷ (k ++ s ∷ e)))))
joins b f p r c s x z l g d k e ys ws ls rs cs ss h1 h2 h3 h4 h5 h6 h7 = cc

fits : (k n p m turns : ℕ) → k + n ≡ turns → p + m ≡ n → k + p ≤ turns
fits k n p m turns a b = omega arith

pair_is : (x : Event × Reply) (e : Event) (r : Reply) → x.0 ≡ e → x.1 ≡ r → x ≡ (e, r)
pair_is x e r h k = let is : (x.0, x.1) ≡ (e, r) = cc in is

pub full_from : (t : ℕ) (work : List Event) (turns left : ℕ) (xs : List (Event × Reply)) → Whole t work (begin_at turns) xs (end_at left) → IsFull t work turns xs
full_from t work turns left [] h = let bad = no_end Start turns left h in absurd (cc)
full_from t work turns left (x ∷ xs) h =
    let b = began t work turns left xs x.1 h.1.0 h.1.1 h.1.2 h.1.3 in
    let w = works t work turns left work 0 xs refl b.2 in
    let l = looks t work turns left w.rest w.next in
    let r = releases t work l.turns left l.rest l.next in
    let c = commits t work left r.rest l.turns r.next in
    let s = stamps t work c.turns left c.rest c.next in
    let last : s.rest ≡ (End t, Over) ∷ [] = last_one t work c.turns left s.rest (whole_leads t work (spot Ending c.turns) s.rest (end_at left) s.next) in
    let first : x ≡ (Begin t, Began b.0) = pair_is x (Begin t) (Began b.0) h.0 b.1 in
    record {
      began = b.0;
      answered = w.replies;
      looks = l.looks;
      ended = l.ended;
      freed = r.again;
      pending = c.pending;
      stamped = s.again;
      order = joins (Begin t, Began b.0) (Finish t, Ready) (Precommit t, Precommitted l.ended) (Release t, Nothing) (Commit t, Committed) (Stamp t, Nothing) x
          (zip work w.replies) (flat_map (look t) l.looks) (each (Release t) r.again) (map (pend t) c.pending) (each (Stamp t) s.again) ((End t, Over) ∷ []) xs w.rest l.rest r.rest c.rest s.rest
          first w.order l.order r.order c.order s.order last
          ∙ regroup (Begin t, Began b.0) (Finish t, Ready) (Precommit t, Precommitted l.ended) (Release t, Nothing) (Commit t, Committed) (Stamp t, Nothing)
          (zip work w.replies) (flat_map (look t) l.looks) (each (Release t) r.again) (map (pend t) c.pending) (each (Stamp t) s.again) ((End t, Over) ∷ []);
      done = w.done;
      searches = l.searches;
      releases = r.kinds;
      stamps = s.kinds;
      within = fits (length l.looks) l.turns (length c.pending) c.turns turns l.count c.count;
    }

-- the turns that a full transcript leaves
abbrev pub left_of : (t : ℕ) (work : List Event) (turns : ℕ) (xs : List (Event × Reply)) → IsFull t work turns xs → ℕ
left_of t work turns xs f = turns - length f.looks - length f.pending

pub full_back : (t : ℕ) (work : List Event) (turns : ℕ) (xs : List (Event × Reply)) (f : IsFull t work turns xs) → Whole t work (begin_at turns) xs (end_at (left_of t work turns xs f))
full_back t work turns xs f =
    let n : ℕ = turns - length f.looks in
    let m : ℕ = n - length f.pending in
    let within : length f.looks + length f.pending ≤ turns = f.within in
    let first : length f.looks + n ≡ turns = omega arith in
    let second : length f.pending + m ≡ n = omega arith in
    let last : List (Event × Reply) = (End t, Over) ∷ [] in
    let s = stamped_back t work m m f.stamped last f.stamps (last_back t work m) in
    let c = committed_back t work m f.pending (each (Stamp t) f.stamped ++ (Stamp t, Nothing) ∷ last) n m second s in
    let cs : List (Event × Reply) = map (pend t) f.pending ++ (Commit t, Committed) ∷ (each (Stamp t) f.stamped ++ (Stamp t, Nothing) ∷ last) in
    let r = released_back t work n m f.freed cs f.releases c in
    let rs : List (Event × Reply) = each (Release t) f.freed ++ (Release t, Nothing) ∷ cs in
    let l = looked_back t work m f.ended f.looks rs turns n first f.searches r in
    let ls : List (Event × Reply) = flat_map (look t) f.looks ++ (Precommit t, Precommitted f.ended) ∷ rs in
    let w = worked_back t work turns m work 0 f.answered ls refl f.done l in
    let whole : Whole t work (begin_at turns) ((Begin t, Began f.began) ∷ (zip work f.answered ++ (Finish t, Ready) ∷ ls)) (end_at m) = (refl, (spot (Working 0) turns, refl, refl, w)) in
    let order : (Begin t, Began f.began) ∷ (zip work f.answered ++ (Finish t, Ready) ∷ ls) ≡ xs =
    regroup (Begin t, Began f.began) (Finish t, Ready) (Precommit t, Precommitted f.ended) (Release t, Nothing) (Commit t, Committed) (Stamp t, Nothing)
    (zip work f.answered) (flat_map (look t) f.looks) (each (Release t) f.freed) (map (pend t) f.pending) (each (Stamp t) f.stamped) last ∙ sym f.order in
    subst (λ (ys : List (Event × Reply)). Whole t work (begin_at turns) ys (end_at m)) order whole

-- a way on to the end from each stage at which a transcript can stop

abbrev pub AreWork : ℕ → List Event → Type 0
AreWork t work = AllByRecursion (λ e. IsTrue (is_work t e)) work

abbrev reply_to : Event → Reply
reply_to (Read t k) = Absent
reply_to (Scan t b) = Rows []
reply_to (Insert t k v) = Done
reply_to (Update t k v) = Done
reply_to (Delete t k) = Done
reply_to e = Ready

replies_fit : (t : ℕ) (e : Event) → IsTrue (is_work t e) → answers e (reply_to e) ≡ true
replies_fit t (Read u k) h = refl
replies_fit t (Scan u b) h = refl
replies_fit t (Insert u k v) h = refl
replies_fit t (Update u k v) h = refl
replies_fit t (Delete u k) h = refl
replies_fit t e h = absurd (cc)

all_fit : (t : ℕ) (es : List Event) → AreWork t es → AllZip (λ e r. IsTrue (answers e r)) es (map reply_to es)
all_fit t [] h = tt
all_fit t (e ∷ es) h = (replies_fit t e h.0, all_fit t es h.1)

pub drop_work : (t : ℕ) (work : List Event) (i : ℕ) → AreWork t work → AreWork t (drop i work)
drop_work t work zero h = h
drop_work t [] (suc i) h = h
drop_work t (w ∷ ws) (suc i) h = drop_work t ws i h.1

-- a reply to the event of a stage, and the rest of a whole transcript from there on
pub record Way (t : ℕ) (work : List Event) (s : Stage) (n : ℕ) : Type 0 where
  pub reply : Reply
  pub later : List (Event × Reply)
  pub whole : Whole t work (spot s n) ((event_at t work s, reply) ∷ later) (end_at n)

abbrev ending : ℕ → List (Event × Reply)
ending t = (Stamp t, Nothing) ∷ (End t, Over) ∷ []

stamping : (t : ℕ) (work : List Event) (n : ℕ) → Whole t work (spot (Stamping false) n) (ending t) (end_at n)
stamping t work n = (refl, (spot Ending n, refl, refl, last_back t work n))

committing : (t : ℕ) (work : List Event) (n : ℕ) → Whole t work (spot Committing n) ((Commit t, Committed) ∷ ending t) (end_at n)
committing t work n = (refl, (spot (Stamping false) n, refl, refl, stamping t work n))

releasing : (t : ℕ) (work : List Event) (n : ℕ) → Whole t work (spot (Releasing false) n) ((Release t, Nothing) ∷ (Commit t, Committed) ∷ ending t) (end_at n)
releasing t work n = (refl, (spot Committing n, refl, refl, committing t work n))

preparing : (t : ℕ) (work : List Event) (n : ℕ) → Whole t work (spot Preparing n) ((Precommit t, Precommitted 0) ∷ (Release t, Nothing) ∷ (Commit t, Committed) ∷ ending t) (end_at n)
preparing t work n = (refl, (spot (Releasing false) n, refl, refl, releasing t work n))

abbrev prepared : ℕ → List (Event × Reply)
prepared t = (Precommit t, Precommitted 0) ∷ (Release t, Nothing) ∷ (Commit t, Committed) ∷ ending t

working : (t : ℕ) (work : List Event) (i n : ℕ) (todo : List Event) → drop i work ≡ todo → AreWork t todo
    → Whole t work (spot (Working i) n) (zip todo (map reply_to todo) ++ (Finish t, Ready) ∷ prepared t) (end_at n)
working t work i n todo is all = worked_back t work n n todo i (map reply_to todo) (prepared t) is (all_fit t todo all) (preparing t work n)

named : (t : ℕ) (work : List Event) (s : Stage) (n : ℕ) (x : Event × Reply) (xs : List (Event × Reply)) → Whole t work (spot s n) (x ∷ xs) (end_at n) → Way t work s n
named t work s n x xs h =
    let at : x.0 ≡ event_at t work s = h.0 in
    record { reply = x.1; later = xs; whole = (refl, h.1) }

working_way : (t : ℕ) (work : List Event) (i n : ℕ) (todo : List Event) → drop i work ≡ todo → AreWork t todo → Way t work (Working i) n
working_way t work i n [] is all = named t work (Working i) n (Finish t, Ready) (prepared t) (working t work i n [] is all)
working_way t work i n (e ∷ es) is all =
    named t work (Working i) n (e, reply_to e) (zip es (map reply_to es) ++ (Finish t, Ready) ∷ prepared t) (working t work i n (e ∷ es) is all)

pub way_on : (t : ℕ) (work : List Event) (s : Stage) (n : ℕ) → AreWork t work → IsTrue (may_stop s) → Way t work s n
way_on t work Start n all h = named t work Start n (Begin t, Began 0) (zip work (map reply_to work) ++ (Finish t, Ready) ∷ prepared t) (refl, (spot (Working 0) n, refl, refl, working t work 0 n work refl all))
way_on t work (Working i) n all h = working_way t work i n (drop i work) refl (drop_work t work i all)
way_on t work Preparing n all h = named t work Preparing n (Precommit t, Precommitted 0) ((Release t, Nothing) ∷ (Commit t, Committed) ∷ ending t) (preparing t work n)
way_on t work (Releasing false) n all h = named t work (Releasing false) n (Release t, Nothing) ((Commit t, Committed) ∷ ending t) (releasing t work n)
way_on t work (Releasing true) n all h = absurd (cc)
way_on t work Committing n all h = named t work Committing n (Commit t, Committed) (ending t) (committing t work n)
way_on t work s n all h = absurd (cc)

-- after a front that goes on, the event of its last stage comes next in a full transcript
pub stands_next : (t : ℕ) (work : List Event) (turns : ℕ) (front : List (Event × Reply)) (mid : Position) (e : Event) → AreWork t work → Whole t work (begin_at turns) front mid
    → IsTrue (may_stop mid.stage) → e ≡ event_at t work mid.stage → StandsNext t work turns front e
stands_next t work turns front mid e all w stop is =
    let way = way_on t work mid.stage mid.turns all stop in
    let rest : List (Event × Reply) = (event_at t work mid.stage, way.reply) ∷ way.later in
    let whole : Whole t work (begin_at turns) (front ++ rest) (end_at mid.turns) = whole_append t work (begin_at turns) front rest mid (end_at mid.turns) w way.whole in
    record {
      reply = way.reply;
      later = way.later;
      full = subst (λ (f : Event). IsFull t work turns (front ++ (f, way.reply) ∷ way.later)) (sym is) (full_from t work turns mid.turns (front ++ rest) whole);
    }
