-- `heads::Notes::enter` meets its contract. Assumes nothing.
use Rattle.blocks.proofs.Far.{noted_later}
use Rattle.blocks.proofs.heads.Notes.enter.Goals as goal

pub invariant_of-self : goal.invariant_of-self
invariant_of-self c =
    let (tables, roles, rows, role) = c.of_role-self.ensures in
    record { right = rw (tables, roles, role) (noted_later _ _ _ _ _ c.requires.0 c.args.self.now.right) }
