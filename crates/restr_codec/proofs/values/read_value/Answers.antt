use Rattle.restr_codec.proofs.ValueLaws.{sound_front}
use Rattle.restr_codec.proofs.values.read_value.Goals as goal

pub returns-in_ok-from_slice-in-Some-clause-sound : goal.returns-in_ok-from_slice-in-Some-clause-sound
returns-in_ok-from_slice-in-Some-clause-sound c =
    rw (c.new.ensures.kind, c.new.ensures.bytes, c.in_ok-from_slice-in-Some.ensures) (sound_front c.args.tag.kind c.args.bytes.now c.in-Some.front.now c.in-Some.behind.now c.in-Some.ensures)
