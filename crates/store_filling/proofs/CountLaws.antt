-- What is counted behind the commands.
use Rattle.std.proofs.Common.{◌≡◌, ◌⊎◌, inl, inr, ◌∙◌, ℕ, ◌+◌, ◌-◌, ◌^◌, ◌≤◌, arith, drop, length, Bool, List, [], ◌∷◌, None, Some, Result, Ok, Err, refl, ap, subst, sym}
use Rattle.std.specs.Prelude.{min}
use Rattle.std.proofs.lemmas.List.{drop_all}
use Rattle.pst_base.specs.declared.ids.Nid.{Nid}
use Rattle.command_text.specs.declared.command.Command.TheVariants.{ListFolder}
use Rattle.command_text.specs.declared.reply.DataLine.{DataLine}
use Rattle.node_port.specs.Nodes.{Nodes}
use Rattle.node_port.specs.Stops.{Room}
use Rattle.pst_outside.specs.World.{Image, World}
use Rattle.pst_outside.proofs.Moments.{stays_settled}
use Rattle.mail_reading.specs.mail_draft.Answers.{Looks, Says}
use Rattle.mail_reading.proofs.mail_draft_laws.Looking.{shown_still}
use Rattle.mail_reading.specs.mail_draft.declared.stop.Stop.{Stop}
use Rattle.mail_reading.specs.mail_draft.declared.stop.Stop.TheVariants as stops
use Rattle.mail_tree.specs.Changing.{Answer}
use Rattle.mail_tree.specs.declared.known.Known.{Known}
use Rattle.mail_searches.specs.Criteria as defined
use Rattle.mail_searches.specs.Searching.{Searching}
use Rattle.mail_searches.specs.Step.{outcome}
use Rattle.mail_searches.specs.declared.known.KnownSearches.{KnownSearches}
use Rattle.mail_reading.specs.search_folders.Comings.{comes_to}
use Rattle.mail_reading.specs.search_folders.declared.outcome.SearchOutcome.{SearchOutcome}
use Rattle.search_lists.specs.Order.{InOrder}
use Rattle.store_session.specs.search_store.Planning.{StoresSearches}
use Rattle.store_session.specs.Carrying.{Has}
use Rattle.store_filling.specs.Counts.{CountsSo, ListsSo, sizes_in}
use Rattle.store_filling.specs.declared.commands.Made.{Made}
use Rattle.store_filling.specs.declared.counting.FillCounts.{FillCounts}
use Rattle.store_filling.proofs.Commits.{not_formless}

module _ (tidy : Bool) (X : Searching) (folder : Nid) (order : InOrder tidy X) where
  listed : (x : Answer defined.Coming) → outcome X (ListFolder folder) ≡ x → (coming : SearchOutcome) → Says (comes_to X) x (Ok coming) → ListsSo X folder (Ok coming.outcome.reply.lines)
  listed (Ok o) e coming said = (o, e, ap (λ (k : defined.Coming). k.outcome.reply.lines) said)
  listed (Err (Some refusal)) e coming said = absurd said
  listed (Err None) e coming said = absurd (not_formless tidy X (ListFolder folder) order e)

  pub lists_lines : (coming : SearchOutcome) → Says (comes_to X) (outcome X (ListFolder folder)) (Ok coming) → ListsSo X folder (Ok coming.outcome.reply.lines)
  lists_lines coming said = listed (outcome X (ListFolder folder)) refl coming said

  unlisted : (x : Answer defined.Coming) → outcome X (ListFolder folder) ≡ x → (stop : Stop) → Says (comes_to X) x (Err stop) → ListsSo X folder (Err stop)
  unlisted (Ok o) e (stops.Refused refusal) said = absurd said
  unlisted (Err (Some q)) e (stops.Refused refusal) said = e ∙ ap (λ y. Err (Some y)) (sym said)
  unlisted (Err None) e (stops.Refused refusal) said = absurd (not_formless tidy X (ListFolder folder) order e)
  unlisted x e stops.Fault said = tt
  unlisted (Ok o) e (stops.Changed ib stored computed) said = said
  unlisted (Err (Some q)) e (stops.Changed ib stored computed) said = said
  unlisted (Err None) e (stops.Changed ib stored computed) said = not_formless tidy X (ListFolder folder) order e
  unlisted x e stops.Memory said = tt

  pub lists_none : (stop : Stop) → Says (comes_to X) (outcome X (ListFolder folder)) (Err stop) → ListsSo X folder (Err stop)
  lists_none stop said = unlisted (outcome X (ListFolder folder)) refl stop said

-- a call that only looks leaves what a store has
pub stores_on : {holds holds' : Nodes → Type 0} {last last' : List ℕ} {room room' : Room} {v w : World} (known : Known) (searches : KnownSearches) (X : Searching) → Looks holds holds' last last' room room' v w → StoresSearches holds last known searches X → StoresSearches holds' last' known searches X
stores_on known searches X looks s = record { tree = record { shown = shown_still X.tree looks s.tree.shown; knows = s.tree.knows }; searches = s.searches }

-- one of the two lists couldn't be had
pub uncounted_search : (X : Searching) (made : Made) (stop : Stop) → ListsSo X made.search (Err stop) → CountsSo X made (Err stop)
uncounted_search X made (stops.Refused refusal) is = inl is
uncounted_search X made stops.Fault is = tt
uncounted_search X made (stops.Changed ib stored computed) is = is
uncounted_search X made stops.Memory is = tt

pub uncounted_folder : (X : Searching) (made : Made) (stop : Stop) → ListsSo X made.folder (Err stop) → CountsSo X made (Err stop)
uncounted_folder X made (stops.Refused refusal) is = inr is
uncounted_folder X made stops.Fault is = tt
uncounted_folder X made (stops.Changed ib stored computed) is = is
uncounted_folder X made stops.Memory is = tt

pub has_on : {holds holds' : Nodes → Type 0} {last last' : List ℕ} {room room' : Room} {v w : World} (rests : Image → Type 0) (known : Known) (searches : KnownSearches) (tidy : Bool) (X : Searching) → Looks holds holds' last last' room room' v w
    → Has holds last known searches rests v tidy X → Has holds' last' known searches rests w tidy X
has_on rests known searches tidy X looks h = record {
  stores = stores_on known searches X looks h.stores;
  order = h.order;
  settled = stays_settled h.settled looks.world;
  at_rest = λ told. subst rests (sym (looks.world.stays.here told)) (h.at_rest (looks.world.stays.told told));
}

-- all were summed
pub summed_all : (lines : List DataLine) (i sum : ℕ) → length lines ≤ i → sum ≤ 2 ^ 64 - 1 → min (sum + sizes_in (drop i lines)) (2 ^ 64 - 1) ≡ min (sizes_in lines) (2 ^ 64 - 1) → sum ≡ min (sizes_in lines) (2 ^ 64 - 1)
summed_all lines i sum le most is = let none : sizes_in (drop i lines) ≡ 0 = ap sizes_in (drop_all i lines le) in omega (arith, none, most, is)
