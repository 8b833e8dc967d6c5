use Rattle.named_props.proofs.RoomLaws.{room-entry, with_entry-buckets, with_name-writable}
use Rattle.named_props.proofs.names.Names.lookup_or_add.Goals as goal

pub add-requires-clause-room : goal.add-requires-clause-room
add-requires-clause-room c =
    rw c.in-Some-new_entry.ensures.entry (room-entry c.args.self.now c.args.guid c.args.id c.in-Some-new_entry.ensures.room)

pub returns-clause-buckets : goal.returns-clause-buckets
returns-clause-buckets c = rw c.in_ok-add.ensures.ok (with_entry-buckets c.in-Some-new_entry.entry c.args.self.now.props c.requires)

pub returns-clause-writable : goal.returns-clause-writable
returns-clause-writable c =
    rw (c.in_ok-add.ensures.ok, c.in-Some-new_entry.ensures.entry)
    (with_name-writable c.args.self.now c.args.guid _ (room-entry c.args.self.now c.args.guid c.args.id c.in-Some-new_entry.ensures.room))
