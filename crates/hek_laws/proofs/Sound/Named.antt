-- Parts of a sound world, each as a lemma.
use Rattle.std.proofs.Common.{refl, sym, ap, ◌∙◌, subst}
use Rattle.std.proofs.lemmas.Bool.{false≢true, eq-eqb}
use Rattle.hek_rules.specs.World.{is_made_by, is_held_by}
use Rattle.hek_rules.specs.Waits.{readers}
use Rattle.hek_laws.specs.Laws.{PreparedTransactionsWaitForNone, WaitsAreBounded, WordsNamePresentTransactions, WordsHaveEntries, FlagsStandWithoutReaders, WordsAreCanonical}
use Rattle.hek_laws.specs.Sound.{IsSoundCreator, IsSoundEnder, IsSoundFlag}
use Rattle.hek_laws.proofs.Runs.Reachable.{reachable-sound}
use Rattle.hek_laws.proofs.Sound.WordsAndSights.{begin-canonical, end-canonical}

pub prepared-wait : PreparedTransactionsWaitForNone
prepared-wait w u r = (reachable-sound w r).waits_for_none u

pub waits-bounded : WaitsAreBounded
waits-bounded w u r = (reachable-sound w r).waits_bound u

pub words-present : WordsNamePresentTransactions
words-present w v u r =
    let s = reachable-sound w r in
    ((λ e. subst (IsSoundCreator w) e (s.creators v)), (λ b e. subst (IsSoundEnder w) e (s.enders v)))

pub words-entries : WordsHaveEntries
words-entries w v u r =
    let s = reachable-sound w r in
    ((λ e. s.creator_entry u v (ap (is_made_by u) e ∙ eq-eqb u u refl)), (λ b e. s.writer_entry u v (ap (is_held_by u) e ∙ eq-eqb u u refl)))

pub flags-alone : FlagsStandWithoutReaders
flags-alone w v r =
    let s = reachable-sound w r in
    ((λ e. false≢true (sym (subst (IsSoundFlag (readers w.read_locks v)) e (s.flags v)))), (λ u e. (subst (IsSoundFlag (readers w.read_locks v)) e (s.flags v)) refl))

pub words-canonical : WordsAreCanonical
words-canonical w v r few = let s = reachable-sound w r in (begin-canonical w s few v, end-canonical w s few v)
