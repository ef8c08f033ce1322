use Rattle.std.proofs.Common.{◌≡◌, ◌-◌, ◌<◌, true, length, slice_index_or, ap, sym, ◌∙◌, arith}
use Rattle.hek_store.specs.Stored.{no_version}
use Rattle.hek_store.specs.Living.{is_gone}
use Rattle.hek_store.proofs.Added.{same_item}
use Rattle.hek_store.proofs.Linked.{chain_step}
use Rattle.hek_store.proofs.Started.{start_next}
use Rattle.hek_store.proofs.living.next_left.Goals as goal

pub loop-link-smaller : goal.loop-link-smaller
loop-link-smaller c =
    let some : 0 < c.loop-link.link = omega (arith, c.loop-link-test.true) in
    let shorter = ap length (chain_step c.args.links.now c.loop-link.link c.requires.rising some c.loop-link.invariant.within) in
    omega (arith, shorter)

pub loop-link-preserved : goal.loop-link-preserved
loop-link-preserved c =
    let some : 0 < c.loop-link.link = omega (arith, c.loop-link-test.true) in
    let within = c.loop-link.invariant.within in
    let there : c.loop-link.link - 1 < length c.args.versions.now = omega (arith, some, within, c.requires.paired) in
    let gone : is_gone c.args.reader.now c.args.time (slice_index_or c.args.versions.now (c.loop-link.link - 1) no_version) ≡ true =
    ap (is_gone c.args.reader.now c.args.time) (same_item c.args.versions.now (c.loop-link.link - 1) no_version c.index-versions-link.result there ∙ sym c.index-versions-link.is) ∙ sym c.if-is_gone.ensures in
    record {
      within = (c.requires.rising (c.loop-link.link - 1) (omega (arith, some, within))).0;
      starts = λ slots slot linked s. start_next slots slot (is_gone c.args.reader.now c.args.time) c.args.versions.now c.args.links.now c.loop-link.link linked some gone (c.loop-link.invariant.starts slots slot linked s);
    }
