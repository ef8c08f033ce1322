-- The pairs of some versions by key: a map of the store's keys and values is the table's list of pairs.
use Rattle.std.proofs.Common.{◌≡◌, ℕ, ◌+◌, ◌<◌, List, [], ◌∷◌, ◌∙◌, ap, sym, length, drop, get_or}
use Rattle.std.proofs.lemmas.List.{drop_more}
use Rattle.std.specs.BTreeMap.{insert_entry}
use Rattle.std.specs.Ordering.{nat_cmp}
use Rattle.hek_rules.specs.Listing.{put}
use Rattle.hek_rules.specs.World.{World}
use Rattle.hek_rules.specs.Table.{pairs_of}
use Rattle.hek_store.specs.declared.version.Version.{Version as StoredVersion}
use Rattle.hek_store.specs.Stored.{version_at}
use Rattle.hek_laws.proofs.Lists.Maps.{insert-put}
use Rattle.hek_machine.specs.declared.engine.Engine.{Engine}
use Rattle.hek_machine.specs.Stands.{StandsFor}

-- the pairs so far, under those of the versions left, are the pairs of all versions
abbrev pub Left : Engine → List ℕ → List (ℕ × ℕ) → List ℕ → Type 0
Left m vs pairs rest = (w : World) → StandsFor m w → pairs_of w.versions pairs rest ≡ pairs_of w.versions [] vs

-- the pair of one more version is put into the pairs so far
pub one_row : (m : Engine) (vs : List ℕ) (i v : ℕ) (before after : List (ℕ × ℕ)) → i < length vs → v ≡ get_or vs i v →
    after ≡ put (version_at m.store v).key (version_at m.store v).value before → Left m vs before (drop i vs) → Left m vs after (drop (i + 1) vs)
one_row m vs i v before after below at grown left w s =
    ap (λ ps. pairs_of w.versions ps (drop (i + 1) vs))
    (grown ∙ ap (λ (x : StoredVersion). put x.key x.value before) (s.shows.store.versions v))
    ∙ sym (ap (pairs_of w.versions before) (drop_more vs i v below ∙ ap (λ n. n ∷ drop (i + 1) vs) (sym at))) ∙ left w s

pub one_put : (m : Engine) (vs : List ℕ) (i v : ℕ) (before after : List (ℕ × ℕ)) → i < length vs → v ≡ get_or vs i v →
    after ≡ insert_entry nat_cmp before (version_at m.store v).key (version_at m.store v).value → Left m vs before (drop i vs) → Left m vs after (drop (i + 1) vs)
one_put m vs i v before after below at grown left =
    one_row m vs i v before after below at (grown ∙ insert-put before (version_at m.store v).key (version_at m.store v).value) left
