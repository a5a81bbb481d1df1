-- `Log::take` meets its contract. Assumes nothing.
use mathlib.Core.Path.{ap, ◌∙◌}
use Rattle.logs.specs.Lines.{counted, recorded}
use Rattle.logs.specs.Logs.{records}
use Rattle.logs.proofs.Recording.{stays_faulty, takes_count, takes_record}
use Rattle.logs.proofs.Log.take.Goals as goal

pub returns-in-Faulty : goal.returns-in-Faulty
returns-in-Faulty c = stays_faulty c.args.self.now c.args.line.now _ c.in-Faulty.is

pub returns-in-Fresh : goal.returns-in-Fresh
returns-in-Fresh c = c.begin.ensures ∙ ap counted c.read.ensures ∙ takes_count c.args.self.now c.args.line.now c.in-Fresh.is

pub returns-in-Begun : goal.returns-in-Begun
returns-in-Begun c =
    let log = c.args.self.now in
    c.record.ensures ∙ ap (recorded c.in-Begun.roles (records log)) c.read-in-Begun.ensures ∙ takes_record log c.args.line.now c.in-Begun.roles c.in-Begun.is
