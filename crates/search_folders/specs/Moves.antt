-- How search folders move and go, part by part.
use Rattle.std.specs.Prelude.{ℕ, None}
use Rattle.mapi_values.specs.Keyed.{drop_key, put_key}
use Rattle.command_text.specs.declared.reply.CommandRefusal.TheVariants.{Limit}
use Rattle.command_text.specs.declared.reply.LastLine.TheVariants.{Done}
use Rattle.command_text.specs.declared.reply.Limit.TheVariants.{Depth}
use Rattle.mail_tree.specs.Changing.{Answer, Changed, ◌>>=◌, drop_shown, hierarchy, nothing, refused_if, with_object}
use Rattle.mail_tree.specs.Folders.{Outcome, moved_between, moving, replied}
use Rattle.mail_tree.specs.Places.{moves_deep, place_id}
use Rattle.mail_tree.specs.Settling.{settled}
use Rattle.mail_tree.specs.Tree.{Tree}
use Rattle.mail_folders.specs.Pieces.{unless_crowds_name}
use Rattle.mail_searches.specs.Criteria.{search_place}
use Rattle.mail_searches.specs.Moving.{without_search}
use Rattle.mail_searches.specs.Searches.{criteria_node, results}

-- the search folder moves from one parent to another, and stands there
unfoldable pub placing_search : Tree → ℕ → ℕ → ℕ → Answer Outcome
placing_search T s from to = let places = put_key place_id (search_place s to) T.places in moved_between T s from to places >>= moving T places (replied Done)

-- the search folder moves to another parent than it has
unfoldable pub moving_search : Tree → ℕ → ℕ → ℕ → Answer Outcome
moving_search T s from to = unless_crowds_name T s to >>= λ u. refused_if (moves_deep T.places s to) (Limit Depth) >>= λ v. placing_search T s from to

-- the three nodes go that each search folder has
abbrev pub without_nodes : ℕ → Changed → Changed
without_nodes s D = with_object (results s) None (with_object (criteria_node s) None (with_object s None D))

-- the search folder in that parent goes, with its row, and the parent is counted anew
unfoldable pub dropping_search : Tree → ℕ → ℕ → Answer Outcome
dropping_search T s parent =
    let places = drop_key place_id s T.places in
    drop_shown T (hierarchy parent) s (without_search T s nothing) >>= settled T places parent >>= moving T places (replied Done)
