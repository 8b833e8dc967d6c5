use Rattle.std.proofs.Common.{◌∙◌, sym, subst, take, get_or}
use Rattle.std.proofs.lemmas.List.{take_more}
use Rattle.mail_store.specs.Knowing.{GetsRoom, HasRooms}
use Rattle.mail_store.proofs.FlagLaws.{one_room_more, rooms_stay}
use Rattle.mail_store.proofs.knowing.make_rooms.Goals as goal

pub loop-change-preserved : goal.loop-change-preserved
loop-change-preserved c =
    let old = c.loop-change.flags in
    let new = c.make_room.new.flags in
    let all = c.args.changes.now in
    let i = c.loop-change.change-index in
    let before = take i all in
    let more = one_room_more new before (get_or all i c.change-item.result) (rooms_stay old new before c.make_room.ensures.kept c.loop-change.invariant.rooms) (subst (GetsRoom new) c.change-item.is c.in_ok-make_room.ensures.room) in
    record {
      same = λ m. c.make_room.ensures.same m ∙ c.loop-change.invariant.same m;
      rooms = subst (HasRooms new) (sym (take_more all i c.change-item.result c.loop-change-test.true)) more;
    }
