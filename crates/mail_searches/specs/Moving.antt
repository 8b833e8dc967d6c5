-- The commands on folders where they name an own search folder: what each refuses, in its order, and what it changes.
use Rattle.std.specs.Prelude.{ℕ, ◌==◌, false, List, None, Ok, if◌then◌else◌}
use Rattle.mapi_values.specs.Characters.{folded}
use Rattle.mapi_values.specs.Keyed.{drop_key, put_key}
use Rattle.mapi_values.specs.Properties.{put}
use Rattle.mail_tree.specs.command_text.declared.reply.CommandRefusal.TheVariants.{Cycle, Limit}
use Rattle.mail_tree.specs.command_text.declared.reply.LastLine.TheVariants.{Done}
use Rattle.mail_tree.specs.command_text.declared.reply.Limit.TheVariants.{Depth}
use Rattle.mail_tree.specs.Changing.{Answer, Changed, ◌>>=◌, context_at, drop_shown, hierarchy, nothing, refused_if, with_object}
use Rattle.mail_tree.specs.Folders.{Outcome, changing, folder_in, moved_between, moving, replied, siblings, unchanged, unless_named, unless_plain, unless_protected, without_node}
use Rattle.mail_tree.specs.Ids.{is_taken}
use Rattle.mail_tree.specs.Places.{children, is_within, moves_deep, place_id}
use Rattle.mail_tree.specs.Settling.{mirrored, settled, with_context}
use Rattle.mail_tree.specs.Tree.{Tree}
use Rattle.mail_tree.specs.Values.{name_of, text}
use Rattle.mail_searches.specs.Criteria.{Coming, search_place}
use Rattle.mail_searches.specs.Searches.{criteria_node, results, search_id, updates}
use Rattle.mail_searches.specs.Searching.{Searching}

-- `rename` of a search folder
unfoldable pub renamed_search : Tree → ℕ → List ℕ → Answer Outcome
renamed_search T s name = folder_in T s >>= λ p. unless_protected T s >>= λ u. unless_named T (folded false name) (siblings T p.parent.bits s) >>= λ v. context_at T nothing s >>= λ c.
    mirrored T s (with_context s c (put (text 0x3001 name) c.props) nothing) >>= changing T (replied Done)

-- `mvdir` of a search folder
unfoldable pub moved_search : Tree → ℕ → ℕ → Answer Outcome
moved_search T s parent = folder_in T s >>= λ p. folder_in T parent >>= λ q. unless_plain q >>= λ u. unless_protected T s >>= λ v. refused_if (is_within T.places s parent) Cycle >>= λ w.
    if p.parent.bits == parent then Ok (unchanged T (replied Done)) else (context_at T nothing s >>= λ c.
    unless_named T (folded false (name_of c.props)) (children parent T.places) >>= λ x. refused_if (moves_deep T.places s parent) (Limit Depth) >>= λ y.
    let places = put_key place_id (search_place s parent) T.places in
    moved_between T s p.parent.bits parent places >>= moving T places (replied Done))

-- the nodes of a search folder go, that of its updates where it is there
abbrev pub without_search : Tree → ℕ → Changed → Changed
without_search T s D = without_node (updates s) (is_taken T (updates s)) (with_object (results s) None (with_object (criteria_node s) None (with_object s None D)))

-- `rmdir` of a search folder, whatever it lists
unfoldable pub removing_search : Tree → ℕ → Answer Outcome
removing_search T s = folder_in T s >>= λ p. unless_protected T s >>= λ u. let places = drop_key place_id s T.places in
    drop_shown T (hierarchy p.parent.bits) s (without_search T s nothing) >>= settled T places p.parent.bits >>= moving T places (replied Done)

-- with it go its criteria
unfoldable pub removed_search : Searching → ℕ → Answer Coming
removed_search X s = removing_search X.tree s >>= λ o. Ok (record { outcome = o; own = drop_key (λ f. f) s X.own; searches = drop_key search_id s X.searches })
