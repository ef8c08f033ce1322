-- The versions that claim their key.
use Rattle.std.proofs.Common.{◌≡◌, ℕ, ◌+◌, ◌<◌, Bool, true, false, List, ◌∷◌, ◌∙◌, ap, sym, length, drop, get_or}
use Rattle.std.specs.Prelude.{◌||◌}
use Rattle.std.proofs.lemmas.List.{drop_more}
use Rattle.hek_rules.specs.declared.word.BeginRecord.{BeginRecord}
use Rattle.hek_rules.specs.World.{World, txn_in, version_in}
use Rattle.hek_store.specs.Stored.{version_at}
use Rattle.hek_rules.specs.Table.{claims, is_claim, is_claimed}
use Rattle.hek_machine.specs.declared.engine.Engine.{Engine}
use Rattle.hek_machine.specs.Stands.{StandsFor}
use Rattle.hek_machine.specs.Judgements.{IsShown, looks}
use Rattle.hek_machine.proofs.WalkRules.{looks-same}
use Rattle.hek_refinement.proofs.Stores.{begin-shown}

-- a version claims its key in the parts exactly if it does in the world
pub claim_shown : (m : Engine) (t v : ℕ) (begin : BeginRecord) (b : Bool) → begin ≡ (version_at m.store v).begin → b ≡ claims m.txns.cores t (looks m t) (txn_in m.txns.cores t).level begin →
    IsShown m (λ w. is_claim w t (txn_in w.txns t).level (version_in w.versions v).creator) b
claim_shown m t v begin b at shown w s =
    ap (λ n. claims w.txns t n (txn_in w.txns t).level (version_in w.versions v).creator) (sym (looks-same m w t s))
    ∙ ap (λ ts. claims ts t (looks m t) (txn_in ts t).level (version_in w.versions v).creator) (sym s.shows.txns.cores)
    ∙ ap (claims m.txns.cores t (looks m t) (txn_in m.txns.cores t).level) (sym (at ∙ begin-shown m.store w.buckets w.versions w.read_locks v s.shows.store)) ∙ sym shown

-- one more version without a claim, in the loop over the versions
pub claim_passed : (m : Engine) (t i v : ℕ) (vs : List ℕ) (b : Bool) → i < length vs → v ≡ get_or vs i v →
    ((w : World) → StandsFor m w → is_claimed w t (drop i vs) ≡ is_claimed w t vs) →
    IsShown m (λ w. is_claim w t (txn_in w.txns t).level (version_in w.versions v).creator) b → b ≡ false →
    (w : World) → StandsFor m w → is_claimed w t (drop (i + 1) vs) ≡ is_claimed w t vs
claim_passed m t i v vs b below at left shown none w s =
    sym (ap (λ x. x || is_claimed w t (drop (i + 1) vs)) (shown w s ∙ none))
    ∙ ap (is_claimed w t) (ap (λ n. n ∷ drop (i + 1) vs) at ∙ sym (drop_more vs i v below)) ∙ left w s

pub claim_met : (m : Engine) (t i v : ℕ) (vs : List ℕ) (b : Bool) → i < length vs → v ≡ get_or vs i v →
    ((w : World) → StandsFor m w → is_claimed w t (drop i vs) ≡ is_claimed w t vs) →
    IsShown m (λ w. is_claim w t (txn_in w.txns t).level (version_in w.versions v).creator) b → b ≡ true → IsShown m (λ w. is_claimed w t vs) true
claim_met m t i v vs b below at left shown met w s =
    sym (left w s) ∙ ap (is_claimed w t) (drop_more vs i v below ∙ ap (λ n. n ∷ drop (i + 1) vs) (sym at))
    ∙ ap (λ x. x || is_claimed w t (drop (i + 1) vs)) (shown w s ∙ met)
