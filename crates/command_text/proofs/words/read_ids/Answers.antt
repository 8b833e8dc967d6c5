use Rattle.std.proofs.Common.{rules, tests, ap, sym, ◌≡◌, ◌∙◌, ◌==◌, subst, None}
use Rattle.std.specs.Prelude.{Ok, ok_or}
use Rattle.command_text.specs.Words.{id_of, all_ids, ids_of}
use Rattle.command_text.specs.declared.command.LineRefusal.{LineRefusal}
use Rattle.command_text.proofs.Ids.{no_id, one_id_more, piece_turn, piece_end}
use Rattle.command_text.proofs.words.read_ids.Goals as goal

pub returns-in-None-id_in : goal.returns-in-None-id_in
unfolding ids_of
returns-in-None-id_in c =
    let turn =
    piece_turn _ (λ b. b == 44) c.args.word.now c.loop-piece.yielded _ c.loop-piece.yielded_by (search rules) (search rules) c.split-piece-items.ensures.closure (λ x r q k. search (rules, tests)) _ _ c.in-Some.piece
    c.in-Some.is c.next.ensures.steps in
    ap (λ ids. ok_or ids LineRefusal.Line) (no_id _ _ c.in-Some.piece.now turn.0 (subst (λ w. None ≡ id_of w) turn.1 c.in-None-id_in.ensures))

pub loop-piece-preserved : goal.loop-piece-preserved
loop-piece-preserved c = (
  search rules,
  tt,
  one_id_more (λ b. b.now) (λ n. n.bits) c.loop-piece.yielded c.in-Some.piece c.loop-piece.ids.items _ c.in-Some-id_in.id c.loop-piece.invariant.2 c.in-Some-id_in.ensures c.in_ok-push-in-Some-id_in.ensures.items,
)

pub returns : goal.returns
unfolding ids_of
returns c =
    let end =
    piece_end _ (λ b. b == 44) c.args.word.now c.loop-piece.yielded _ c.loop-piece.yielded_by (search rules) (search rules) c.split-piece-items.ensures.closure (λ x r q k. search (rules, tests)) _ _ c.in-None.is
    c.next.ensures.steps in
    ap (λ ids. ok_or ids LineRefusal.Line) (ap all_ids (sym end) ∙ c.loop-piece.invariant.2) ∙ ap Ok (sym c.from_vec.ensures)
