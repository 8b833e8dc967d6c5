-- The tree that is left without the nodes of its searches, which the nodes show as one without any.
use Rattle.std.proofs.Common.{◌≡◌, inl, inr, ◌∙◌, ℕ, ◌%◌, Bool, false, not, cond, Option, None, Some, is_none, refl, sym, ap}
use Rattle.std.proofs.lemmas.Bool.{cases_Bool, false≢true}
use Rattle.std.proofs.lemmas.Option.{none-some}
use Rattle.std.specs.Ordering.{nat_cmp}
use Rattle.std.specs.FinMap as map
use Rattle.mail_objects.specs.declared.object.Object.{Object}
use Rattle.mail_objects.specs.declared.object.Object.TheVariants.{Context, Message, Table}
use Rattle.mail_tree.specs.Flags.{AreFlags, FlagList, IsNoted}
use Rattle.mail_tree.specs.declared.note.Note.{Note}
use Rattle.mail_tree.specs.declared.note.Note.TheVariants.{Named, Unread}
use Rattle.mail_tree.specs.Found.{IsFound}
use Rattle.mail_tree.specs.Standing.{HasTree}
use Rattle.mail_tree.specs.Tree.{Objects, StandsAt, Tree, object_at}
use Rattle.mail_tree.specs.Whole.{IsWhole}
use Rattle.mail_searches.specs.Searching.{Searching}
use Rattle.node_port.specs.Nodes.{Nodes, node_at}
use Rattle.tree_look.specs.Seeing.{AreListed}
use Rattle.tree_look.specs.Shows.{Shows}
use Rattle.tree_look.proofs.Again.{shows_found}
use Rattle.tree_look.proofs.Known.{shows_flags}
use Rattle.search_look.specs.Showing.{ShowsSearches}
use Rattle.search_look.proofs.Alike.{AreAlike, Stands, alike_folders, alike_whole, is_beside, no_stray, node_of, of_search_kind, same_names}

-- what is left of a map
kept : {V : Type 0} (m : map.FinMap nat_cmp V) (p : ℕ → Bool) (q : ℕ) → map.get (map.retain_keys m p) q ≡ cond (p q) (map.get m q) None
kept m p q = map.get-retain_keys m p q (λ x e. ap p (sym (map.nat_cmp-IsAntisymmetric q x e)))

abbrev others_than : Nodes → Objects → Nodes
others_than N O = map.retain_keys N (λ q. is_none (map.get O q))

abbrev left : Objects → Objects
left O = map.retain_keys O (λ q. not (is_beside (q % 32)))

-- the tree of these nodes without the objects at ids of nodes of searches
abbrev pub without : Nodes → Searching → Tree
without N X = record { places = X.tree.places; objects = left X.tree.objects; others = others_than N (left X.tree.objects); last = X.tree.last }

module _ (N : Nodes) (X : Searching) where
  pub left_alike : AreAlike (object_at X.tree) (object_at (without N X))
  left_alike q other = kept X.tree.objects (λ x. not (is_beside (x % 32))) q ∙ ap (λ b. cond (not b) (object_at X.tree q) None) other

  -- what is left stood there, at an id of another kind
  pub was : (q : ℕ) (o : Object) → object_at (without N X) q ≡ Some o → (object_at X.tree q ≡ Some o) × (is_beside (q % 32) ≡ false)
  was q o e = elim (cases_Bool (is_beside (q % 32))) [
    | inl of ↦ absurd (none-some o (sym (kept X.tree.objects (λ x. not (is_beside (x % 32))) q ∙ ap (λ b. cond (not b) (object_at X.tree q) None) of) ∙ e))
    | inr other ↦ (sym (left_alike q other) ∙ e, other)
  ]

  other_at : (q : ℕ) (x : Option Object) → object_at (without N X) q ≡ x → node_at (without N X).others q ≡ cond (is_none x) (node_at N q) None
  other_at q x e = kept N (λ y. is_none (object_at (without N X) y)) q ∙ ap (λ y. cond (is_none y) (node_at N q) None) e

module _ (N : Nodes) (X : Searching) (s : ShowsSearches N X) where
  at : Stands N (without N X)
  at q = go (object_at (without N X) q) refl
    where
      go : (x : Option Object) → object_at (without N X) q ≡ x → StandsAt q (node_at N q) x (node_at (without N X).others q)
      go None e = sym (other_at N X q None e)
      go (Some o) e = (other_at N X q (Some o) e, node_of N X.tree s.at q o (was N X q o e).0)

  whole : IsWhole (without N X)
  whole = record {
    objects = alike_whole (object_at X.tree) (object_at (without N X)) (left_alike N X) X.tree.places s.whole.objects (λ q o e. s.whole.objects.typed q o (was N X q o e).0) (λ q t e. s.whole.objects.rows_ascend q t (was N X q (Table t) e).0);
    no_stray = λ f p e plain. no_stray N X.tree (without N X) s.at at (left_alike N X) f (s.whole.no_stray f p e plain);
  }

  found : IsFound (without N X)
  found = record {
    listed = λ f p t r sort e plain is row names.
        s.found.listed f p t r sort e plain (sym (alike_folders (object_at X.tree) (object_at (without N X)) (left_alike N X) f) ∙ is) row (same_names N X.tree (without N X) s.at at (left_alike N X) r ∙ names);
    reached = s.found.reached;
    owned = λ q o e. elim (s.found.owned q o (was N X q o e).0) [
      | inl of ↦ absurd (false≢true (sym (was N X q o e).1 ∙ of_search_kind X.own q of))
      | inr belongs ↦ belongs
    ];
  }

  pub shows_without : Shows N (without N X)
  shows_without = shows_found N (without N X) whole found at

-- nodes that show a tree with searches have that tree
pub has_tree : (N : Nodes) (X : Searching) → ShowsSearches N X → HasTree N X.tree.places
has_tree N X s = (shows_without N X s).tree

-- what is known of messages and folders of these nodes is so of it
pub search_flags : (N : Nodes) (X : Searching) (flags : FlagList) → ShowsSearches N X → AreListed N X.tree.places flags → AreFlags (object_at X.tree) flags
search_flags N X flags s listed = λ q note known. there note q (shows_flags N (without N X) flags (shows_without N X s) listed q note known)
  where
    there : (note : Note) (q : ℕ) → IsNoted note (object_at (without N X) q) → IsNoted note (object_at X.tree q)
    there (Unread unread) q M = (M.0, (was N X q (Message M.0) M.1).0, M.2)
    there (Named name) q c = (c.0, (was N X q (Context c.0) c.1).0, c.2)
