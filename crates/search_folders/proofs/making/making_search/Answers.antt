use Rattle.std.proofs.Common.{◌∙◌, ℕ, List, ap, sym}
use Rattle.mapi_values.specs.Keyed.{put_key}
use Rattle.mail_tree.specs.declared.places.FolderPlace.{FolderPlace}
use Rattle.mail_tree.specs.Changing.{◌>>=◌}
use Rattle.mail_tree.specs.Places.{place_id}
use Rattle.mail_tree.specs.Folders.{making}
use Rattle.mail_draft.proofs.DeskCalls.{changes_come, changes_come_exit}
use Rattle.mail_folders.proofs.Calls.{comes_known}
use Rattle.mail_searches.specs.Criteria.{making_search, search_place}
use Rattle.search_folders.specs.Pieces.{added_search}
use Rattle.search_folders.proofs.making.making_search.Goals as goal

pub returns-in_err-added_search-clause-answer : goal.returns-in_err-added_search-clause-answer
unfolding making_search added_search
returns-in_err-added_search-clause-answer g c =
    let made = c.new_id-search.result.bits in let parent = c.args.parent.bits in let name = c.args.name.now in let after = c.in_ok-after.after in
    comes_known c.places.ensures (λ T e D.
    ap (λ (ps : List FolderPlace). added_search T made parent name ps >>= making T ps 3 c.args.index) (c.in_ok-after.ensures ∙ ap (put_key place_id (search_place made parent)) (sym e))
    ∙ ap (λ (s : ℕ). added_search T s parent name (put_key place_id (search_place s parent) T.places) >>= making T (put_key place_id (search_place s parent) T.places) 3 c.args.index) c.new_id-search.ensures)
    (changes_come_exit (λ T. making T after 3 c.args.index) c.in_err-added_search.ensures.answer c.from_residual-in_err-added_search.ensures.1)

pub returns-clause-answer : goal.returns-clause-answer
unfolding making_search added_search
returns-clause-answer g c =
    let made = c.new_id-search.result.bits in let parent = c.args.parent.bits in let name = c.args.name.now in let after = c.in_ok-after.after in
    comes_known c.places.ensures (λ T e D.
    ap (λ (ps : List FolderPlace). added_search T made parent name ps >>= making T ps 3 c.args.index) (c.in_ok-after.ensures ∙ ap (put_key place_id (search_place made parent)) (sym e))
    ∙ ap (λ (s : ℕ). added_search T s parent name (put_key place_id (search_place s parent) T.places) >>= making T (put_key place_id (search_place s parent) T.places) 3 c.args.index) c.new_id-search.ensures)
    (changes_come (λ T. making T after 3 c.args.index) c.in_ok-added_search.ensures.answer c.in_ok-added_search.ensures.drafts c.making.ensures.answer)
