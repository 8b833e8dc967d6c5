use Rattle.std.proofs.Common.{◌∙◌, ℕ, List, Option, sym, ap}
use Rattle.std.specs.Vec.Iter.{into_iter_items}
use Rattle.mail_tree.specs.declared.note.Note.{Note}
use Rattle.mail_tree.specs.Flags.{has_room, known_note}
use Rattle.mail_store.proofs.FlagLaws.{flags_written, known_in_turn, known_more, none_left}
use Rattle.mail_store.proofs.knowing.settle_flags.Goals as goal

pub loop-nid-init : goal.loop-nid-init
loop-nid-init c = record {
  can_next = tt;
  is_finite = tt;
  so_far = λ q. ap (λ (cs : List (ℕ × Option Note)). known_in_turn q cs (has_room q c.args.flags.now) (known_note q c.args.flags.now)) (sym c.into_iter-nid-iterator.ensures.into_iter_gives.0);
}

pub loop-nid-preserved : goal.loop-nid-preserved
loop-nid-preserved c = record {
  can_next = tt;
  is_finite = tt;
  so_far = λ q.
      c.loop-nid.invariant.so_far q
      ∙ ap (λ (cs : List (ℕ × Option Note)). known_in_turn q cs (has_room q c.loop-nid.flags) (known_note q c.loop-nid.flags)) c.in-Some.ensures.steps.0
      ∙ known_more q c.in-Some.nid c.in-Some.note (into_iter_items c.next.new.self) c.loop-nid.flags c.set.new.self (c.set.ensures.known q) (c.set.ensures.room q);
}

pub returns : goal.returns
returns c = λ D is m.
    let left = c.loop-nid.nid-iterator in
    let none = none_left (into_iter_items left) (sym left.rest.ok.0 ∙ c.in-None.ensures.steps.0) in
    sym (c.loop-nid.invariant.so_far m ∙ ap (λ (cs : List (ℕ × Option Note)). known_in_turn m cs (has_room m c.loop-nid.flags) (known_note m c.loop-nid.flags)) none)
    ∙ ap (λ (cs : List (ℕ × Option Note)). known_in_turn m cs (has_room m c.args.flags.now) (known_note m c.args.flags.now)) is
    ∙ flags_written D m c.args.flags.now
