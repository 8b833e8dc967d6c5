use Rattle.named_props.proofs.RoomLaws.{room-bucket}
use Rattle.named_props.proofs.names.Names.try_add.Goals as goal

pub bucket_with-requires-clause-short : goal.bucket_with-requires-clause-short
bucket_with-requires-clause-short c = room-bucket c.args.self.now c.args.guid c.args.entry c.requires.room
