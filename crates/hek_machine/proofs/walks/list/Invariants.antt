use Rattle.std.proofs.Common.{◌≡◌, ◌++◌}
use Rattle.hek_store.specs.Places.{key_versions_left}
use Rattle.hek_machine.proofs.walks.list.Given as goal

-- the versions listed so far and those left are all versions
abbrev pub invariant-loop-v : goal.invariant-loop-v
invariant-loop-v l = record {
  listed : l.versions.items ++ key_versions_left l.v-iterator ≡ key_versions_left l.found;
}
