-- A command that only reads leaves the tree and its searches.
use Rattle.std.proofs.Common.{◌≡◌, ◌∙◌, ℕ, true, List, [], ◌∷◌, Option, None, Some, IfOk, Ok, Err, ap, inl, inr, refl, subst, sym}
use Rattle.std.proofs.lemmas.Bool.{cases_Bool}
use Rattle.pst_base.specs.declared.ids.Nid.{Nid}
use Rattle.command_text.specs.Asking.{asks}
use Rattle.command_text.specs.declared.command.Command.{Command}
use Rattle.command_text.specs.declared.command.Command.TheVariants.{MakeFolder, RenameFolder, MoveFolder, RemoveFolder, ListFolder, NewMessage, SetProperty, UnsetProperty, GetProperty, ListProperties, MoveMessage, CopyMessage, RemoveMessage, AddRecipient, RemoveRecipient, AddAttachment, AppendData, RemoveAttachment, FetchData, NameProperty, Save, Quit, MakeSearch, SetCriteria, GetCriteria, SetEmbedded}
use Rattle.command_text.specs.declared.reply.CommandRefusal.TheVariants as refusals
use Rattle.command_text.specs.declared.reply.Reply.{Reply}
use Rattle.mail_tree.specs.Changing.{Answer, Changed, ◌>>=◌, nothing, within_limits}
use Rattle.mail_tree.specs.Folders.{Outcome, listing, made_id, unchanged}
use Rattle.mail_tree.specs.Places.{find_place}
use Rattle.mail_tree.specs.Step as tree
use Rattle.mail_tree.specs.Step.{outcome as tree_outcome}
use Rattle.mail_tree.specs.Tree.{Tree}
use Rattle.mail_tree.specs.Whole.{Fine, IsWhole}
use Rattle.mail_tree.proofs.AfterTree.{now_nothing}
use Rattle.mail_tree.proofs.FineLaws.{after_context, after_found, after_table, fine_either, fine_then}
use Rattle.search_folders.proofs.mail_draft_laws.FitLaws.{no-entries}
use Rattle.mail_laws.specs.Laws.{only_reads}
use Rattle.mail_laws.proofs.LawSteps.{reads_only}
use Rattle.mail_laws.proofs.Strays.{whole_after}
use Rattle.mail_searches.specs.Criteria.{marked, search_listing, staying, told_criteria, unless_other}
use Rattle.mail_searches.specs.Relisting.{Around, around, settled_search, settled_searches}
use Rattle.mail_searches.specs.Searches.{Search, criteria_node, results, runs}
use Rattle.mail_searches.specs.Searching.{AreSearches, Searching, is_own}
use Rattle.mail_searches.specs.Step.{after, concluded, if_within, listing_in, outcome, plain_outcome}
use Rattle.mail_searches.specs.Touching.{touched}
use Rattle.search_lists.proofs.ClearLaws.{none_unclear}
use Rattle.mail_reading.specs.Asked.{ReadsLeave}

-- an answer that is fine and is so if it is given
fine_is : {A : Type 0} (P Q : A → Type 0) (a : Answer A) → Fine a P → IfOk a Q → Fine a Q
fine_is P Q (Ok x) p q = q
fine_is P Q (Err (Some refusal)) p q = tt
fine_is P Q (Err None) p q = p

-- ---- in the tree

module _ (T : Tree) (ss : List Search) where
  -- where no message is touched a search stays
  one_stays : (d : Around) (s : Search) (D : Changed) → settled_search T d [] s D ≡ Ok D
  unfolding settled_search
  one_stays d s D = elim (cases_Bool (runs s)) [
    | inl b ↦ rw b refl
    | inr b ↦ rw b refl
  ]

  -- and so does each
  all_stay : (d : Around) (xs : List Search) (D : Changed) → settled_searches T d [] xs D ≡ Ok D
  all_stay d [] D = refl
  all_stay d (s ∷ xs) D = ap (λ a. a >>= settled_searches T d [] xs) (one_stays d s D) ∙ all_stay d xs D

  -- nothing keeps to the limits
  nothing_within : (new : Option Nid) → within_limits T new nothing ≡ Ok tt
  unfolding within_limits
  nothing_within new = rw (no-entries nothing refl) refl

  concludes : (c : Command) (r : Reply) → touched T c (unchanged T r) ≡ Ok [] → concluded T ss c (unchanged T r) ≡ Ok (unchanged T r)
  unfolding concluded
  concludes c r none =
      let o = unchanged T r in
      ap (λ t. t >>= (λ ts. settled_searches T (around T o) ts ss o.changed >>= λ D. Ok (record o { changed = D })) >>= if_within T) none
      ∙ ap (λ a. (a >>= λ D. Ok (record o { changed = D })) >>= if_within T) (all_stay (around T o) ss o.changed) ∙ ap (λ a. a >>= λ u. Ok o) (nothing_within (made_id r.last))

  -- what only looks has no searches behind it
  concludes_all : (c : Command) (a : Answer Outcome) → ((o : Outcome) → touched T c o ≡ Ok []) → IfOk a (λ o. o ≡ unchanged T o.reply) → (a >>= concluded T ss c) ≡ a
  concludes_all c (Ok o) none is = subst (λ x. concluded T ss c x ≡ Ok x) (sym is) (concludes c o.reply (none (unchanged T o.reply)))
  concludes_all c (Err e) none is = refl

module _ (X : Searching) where
  pub plain_reads : (c : Command) → only_reads c ≡ true → ((o : Outcome) → touched X.tree c o ≡ Ok []) → plain_outcome X c ≡ (tree.outcome X.tree c >>= staying X)
  plain_reads c only none = ap (λ a. a >>= staying X) (concludes_all X.tree X.searches c (tree.outcome X.tree c) none (reads_only X.tree c only))

  -- nothing changes
  same_after : (o : Outcome) → o ≡ unchanged X.tree o.reply → after X (record { outcome = o; own = X.own; searches = X.searches }) ≡ X
  same_after o is = ap (λ (x : Outcome). after X (record { outcome = x; own = X.own; searches = X.searches })) is ∙ unchanged_after
    where
      unchanged_after : after X (record { outcome = unchanged X.tree o.reply; own = X.own; searches = X.searches }) ≡ X
      unchanged_after =
          let entries = no-entries nothing refl in λ i. record {
            tree = record {
              places = X.tree.places;
              objects = tree.with_changes (entries i) X.tree.objects;
              others = tree.without_changed (entries i) X.tree.others;
              last = X.tree.last;
            };
            own = X.own;
            searches = X.searches;
          }

  -- an answer that changes nothing leaves the searches too
  stays : (a : Answer Outcome) → Fine a (λ o. o ≡ unchanged X.tree o.reply) → Fine (a >>= staying X) (λ o. after X o ≡ X)
  stays a is = fine_then (λ o. o ≡ unchanged X.tree o.reply) (λ o. after X o ≡ X) a (staying X) is (λ o e. same_after o e)

  module _ (whole : IsWhole X.tree) (are : AreSearches X) where
    -- what a command of the tree answers that only reads
    quiet : (c : Command) → only_reads c ≡ true → Fine (tree.outcome X.tree c) (λ o. o ≡ unchanged X.tree o.reply)
    quiet c only = fine_is (λ o. IsWhole (tree.after X.tree o)) (λ o. o ≡ unchanged X.tree o.reply) (tree.outcome X.tree c) (whole_after X.tree c whole) (reads_only X.tree c only)

    plain : (c : Command) → only_reads c ≡ true → ((o : Outcome) → touched X.tree c o ≡ Ok []) → Fine (plain_outcome X c) (λ o. after X o ≡ X)
    plain c only none = subst (λ a. Fine a (λ o. after X o ≡ X)) (sym (plain_reads c only none)) (stays (tree.outcome X.tree c) (quiet c only))

    -- what names an own search goes on
    own_after : (s : ℕ) → Fine (unless_other X s) (λ u. is_own X.own s ≡ true)
    own_after s = after_found (λ u. is_own X.own s ≡ true) refusals.Object (find_place s X.tree.places) _ (λ p e. elim (cases_Bool (is_own X.own s)) [
      | inl own ↦ rw own refl
      | inr other ↦ rw other tt
    ])

    -- the criteria of an own search are told
    told : (s : ℕ) → Fine (told_criteria X s) (λ o. o ≡ unchanged X.tree o.reply)
    unfolding told_criteria
    told s = fine_then (λ u. is_own X.own s ≡ true) (λ o. o ≡ unchanged X.tree o.reply) (unless_other X s) _ (own_after s) (λ u own.
        let c = are.criteria s own in
        after_context (λ o. o ≡ unchanged X.tree o.reply) X.tree nothing (criteria_node s) c.0 _ (ap (λ g. g (criteria_node s)) (now_nothing X.tree) ∙ c.1) (rw c.2.1 refl))

    -- the messages of an own search are listed
    lists_own : (f : ℕ) → is_own X.own f ≡ true → Fine (search_listing X.tree f) (λ o. o ≡ unchanged X.tree o.reply)
    unfolding search_listing
    lists_own f own =
        let t = are.tables f own in
        after_table (λ o. o ≡ unchanged X.tree o.reply) X.tree nothing (results f) t.0 _ (ap (λ g. g (results f)) (now_nothing X.tree) ∙ t.1)
        (rw (none_unclear X.tree nothing t.0.table.rows whole) refl)

    -- so is what is in any other folder
    lists_other : (folder : Nid) → Fine (listing X.tree folder.bits) (λ o. o ≡ unchanged X.tree o.reply)
    unfolding tree_outcome
    lists_other folder = quiet (ListFolder folder) refl

    lists : (folder : Nid) → Fine (listing_in X folder.bits) (λ o. o ≡ unchanged X.tree o.reply)
    unfolding listing_in
    lists folder = fine_either (λ o. o ≡ unchanged X.tree o.reply) (is_own X.own folder.bits) _ _ (λ own. lists_own folder.bits own)
        (λ other. fine_then (λ o. o ≡ unchanged X.tree o.reply) (λ o. o ≡ unchanged X.tree o.reply) (listing X.tree folder.bits) _ (lists_other folder) (λ o is. ap (λ (x : Outcome). record x { reply = marked X.own o.reply }) is))

pub reads_leave : ReadsLeave
unfolding outcome asks
reads_leave X (ListFolder folder) whole are is = stays X (listing_in X folder.bits) (lists X whole are folder)
reads_leave X (GetCriteria search) whole are is = stays X (told_criteria X search.bits) (told X whole are search.bits)
reads_leave X (GetProperty message tag) whole are is = plain X whole are (GetProperty message tag) refl (λ o. refl)
reads_leave X (ListProperties message) whole are is = plain X whole are (ListProperties message) refl (λ o. refl)
reads_leave X (FetchData message attachment) whole are is = plain X whole are (FetchData message attachment) refl (λ o. refl)
reads_leave X Quit whole are is = plain X whole are Quit refl (λ o. refl)
reads_leave X (MakeFolder parent name) whole are is = cc
reads_leave X (RenameFolder folder name) whole are is = cc
reads_leave X (MoveFolder folder parent) whole are is = cc
reads_leave X (RemoveFolder folder) whole are is = cc
reads_leave X (NewMessage folder class time values) whole are is = cc
reads_leave X (SetProperty message value) whole are is = cc
reads_leave X (UnsetProperty message tag) whole are is = cc
reads_leave X (MoveMessage message folder) whole are is = cc
reads_leave X (CopyMessage message folder) whole are is = cc
reads_leave X (RemoveMessage message) whole are is = cc
reads_leave X (AddRecipient message kind address name) whole are is = cc
reads_leave X (RemoveRecipient message row) whole are is = cc
reads_leave X (AddAttachment message name held) whole are is = cc
reads_leave X (AppendData message attachment bytes) whole are is = cc
reads_leave X (SetEmbedded message attachment node) whole are is = cc
reads_leave X (RemoveAttachment message attachment) whole are is = cc
reads_leave X (NameProperty guid number) whole are is = cc
reads_leave X (MakeSearch parent name) whole are is = cc
reads_leave X (SetCriteria search flags scope restriction) whole are is = cc
reads_leave X Save whole are is = cc
