use Rattle.hek_explore.proofs.Classes.{put-in}
use Rattle.hek_explore.proofs.class.Layer.add.Goals as goal

pub returns-in-Some : goal.returns-in-Some
returns-in-Some c =
    put-in c.join.result c.args.self.now c.self.inside.classes.items c.args.class c.in-Some.place c.index_mut.result.now c.join.new.self c.self.view_is c.in-Some.ensures
    c.index_mut.ensures.value c.join.ensures
