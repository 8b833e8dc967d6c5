-- How what was asked for ends.
use Rattle.std.specs.Prelude.{◌≡◌}
use Rattle.pst_outside.specs.World.{World}
use Rattle.mail_session.specs.Compact.{CompactEnds}
use Rattle.mail_session.specs.Decode.{DecodeEnds}
use Rattle.mail_session.specs.Files.{NewEnds, RunEnds}
use Rattle.mail_session.specs.Fill.{FillEnds}
use Rattle.mail_session.specs.Info.{InfoEnds}
use Rattle.mail_session.specs.Look.{LookEnds}
use Rattle.mail_session.specs.Mend.{MendEnds}
use Rattle.mail_session.specs.Nodes.{NodesEnds}
use Rattle.mail_session.specs.Scratch.{ScratchEnds}
use Rattle.mail_session.specs.declared.exit.Status.{Status}
use Rattle.mail_session.specs.declared.exit.Status.TheVariants.{Memory, Words}
use Rattle.mail_session.specs.declared.words.Asked.{Asked}
use Rattle.mail_session.specs.declared.words.Asked.TheVariants as asked
use Rattle.mail_session.specs.declared.words.Form.TheVariants as forms

-- each form by its own words; words without a form ask nothing of the world
abbrev pub EndsFor : {W : Type 0} → Asked → W → W → World → World → Status → Type 0
EndsFor (asked.Plain forms.Info) v w old new status = InfoEnds old new status
EndsFor (asked.Plain forms.New) v w old new status = (status ≡ Words) × (w ≡ v)
EndsFor (asked.Plain forms.Nodes) v w old new status = NodesEnds old new status
EndsFor (asked.Plain forms.Run) v w old new status = RunEnds old new status
EndsFor (asked.Plain forms.Look) v w old new status = LookEnds old new status
EndsFor (asked.Plain forms.Decode) v w old new status = DecodeEnds old new status
EndsFor (asked.Plain forms.Compact) v w old new status = CompactEnds old new status
EndsFor (asked.Plain forms.Mend) v w old new status = MendEnds old new status
EndsFor (asked.Plain forms.Fill) v w old new status = (status ≡ Words) × (w ≡ v)
EndsFor (asked.Plain forms.Scratch) v w old new status = ScratchEnds old new status × (status ≡ Memory → w ≡ v)
EndsFor (asked.New name) v w old new status = NewEnds name old new status
EndsFor (asked.Fill seed count) v w old new status = FillEnds seed count old new status
EndsFor asked.Nothing v w old new status = (status ≡ Words) × (w ≡ v)
