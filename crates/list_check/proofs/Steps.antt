-- What the calls of the pass say, one after another.
use Rattle.std.proofs.Common.{◌≡◌, ◌∙◌, ℕ, ◌+◌, ◌<◌, suc, List, length, get_or, drop, drop-cons, add-one, Option, None, Some, is_some, Result, Ok, Err, true, false, refl, sym, ap, subst}
use Rattle.std.proofs.lemmas.Bool.{false≢true}
use Rattle.pst_base.specs.declared.ids.Nid.{Nid}
use Rattle.mapi_values.specs.Messages.{Mes}
use Rattle.mapi_values.specs.Tables.{Tab}
use Rattle.mail_objects.specs.Forms.{Tbl}
use Rattle.mail_tree.specs.declared.places.FolderPlace.{FolderPlace}
use Rattle.mail_tree.specs.Changing.{Answer, ◌>>=◌, contents, message_at, nothing, table_at}
use Rattle.mail_tree.specs.Settling.{message_ids}
use Rattle.mail_tree.specs.Tree.{Tree}
use Rattle.mail_draft.specs.Answers.{Says}
use Rattle.mail_draft.specs.declared.stop.Stop.{Stop}
use Rattle.mail_draft.proofs.Passes.{stop_says, then_says}
use Rattle.mail_searches.specs.Searches.{Search}
use Rattle.list_check.specs.Watching.{Watch, bits_of, or_else, stale_among, stale_at, stale_below, stale_in, stale_listed, stale_of, watched, with_search}

abbrev pub Told : Type 0
Told = Result (Option Nid) Stop

-- ---- a search that is told, or else what the rest tells

or_tells : (a rest : Answer (Option ℕ)) (stale : Option Nid) → is_some stale ≡ true → Says bits_of a (Ok stale) → Says bits_of (a >>= λ s. or_else s rest) (Ok stale)
or_tells (Ok s) rest None some first = absurd (false≢true some)
or_tells (Ok s) rest (Some n) some first = subst (λ s. Says bits_of (or_else s rest) (Ok (Some n))) first refl
or_tells (Err None) rest stale some first = tt
or_tells (Err (Some refusal)) rest stale some first = absurd first

or_rest : (a rest : Answer (Option ℕ)) (stale : Option Nid) (result : Told) → is_some stale ≡ false → Says bits_of a (Ok stale) → Says bits_of rest result → Says bits_of (a >>= λ s. or_else s rest) result
or_rest (Ok s) rest None result none first next = subst (λ s. Says bits_of (or_else s rest) result) first next
or_rest (Ok s) rest (Some n) result none first next = absurd (false≢true (sym none))
or_rest (Err None) rest stale result none first next = tt
or_rest (Err (Some refusal)) rest stale result none first next = absurd first

-- ---- a message after another

module _ (T : Tree) (ws : List Watch) where
  pub message_stops : (ms : List ℕ) (i d : ℕ) (stop : Stop) → i < length ms → Says {B = Option Nid} bits_of (stale_at T ws (get_or ms i d)) (Err stop) → Says {B = Option Nid} bits_of (stale_among T ws (drop i ms)) (Err stop)
  message_stops ms i d stop h first = rw (drop-cons ms i d) (stop_says bits_of bits_of (stale_at T ws (get_or ms i d)) (λ s. or_else s (stale_among T ws (drop (suc i) ms))) stop first)

  pub message_tells : (ms : List ℕ) (i d : ℕ) (stale : Option Nid) → i < length ms → is_some stale ≡ true → Says bits_of (stale_at T ws (get_or ms i d)) (Ok stale) → Says bits_of (stale_among T ws (drop i ms)) (Ok stale)
  message_tells ms i d stale h some first = rw (drop-cons ms i d) (or_tells (stale_at T ws (get_or ms i d)) (stale_among T ws (drop (suc i) ms)) stale some first)

  pub message_on : (ms : List ℕ) (i d : ℕ) (stale : Option Nid) (result : Told) → i < length ms → is_some stale ≡ false → Says bits_of (stale_at T ws (get_or ms i d)) (Ok stale)
      → Says bits_of (stale_among T ws (drop (i + 1) ms)) result → Says bits_of (stale_among T ws (drop i ms)) result
  message_on ms i d stale result h none first next =
      rw (drop-cons ms i d) (or_rest (stale_at T ws (get_or ms i d)) (stale_among T ws (drop (suc i) ms)) stale result none first (rw add-one at next))

  -- ---- a folder after another

  pub folder_stops : (ps : List FolderPlace) (i : ℕ) (d : FolderPlace) (stop : Stop) → i < length ps → Says {B = Option Nid} bits_of (stale_in T ws (get_or ps i d)) (Err stop) → Says {B = Option Nid} bits_of (stale_below T ws (drop i ps)) (Err stop)
  folder_stops ps i d stop h first = rw (drop-cons ps i d) (stop_says bits_of bits_of (stale_in T ws (get_or ps i d)) (λ s. or_else s (stale_below T ws (drop (suc i) ps))) stop first)

  pub folder_tells : (ps : List FolderPlace) (i : ℕ) (d : FolderPlace) (stale : Option Nid) → i < length ps → is_some stale ≡ true → Says bits_of (stale_in T ws (get_or ps i d)) (Ok stale) → Says bits_of (stale_below T ws (drop i ps)) (Ok stale)
  folder_tells ps i d stale h some first = rw (drop-cons ps i d) (or_tells (stale_in T ws (get_or ps i d)) (stale_below T ws (drop (suc i) ps)) stale some first)

  pub folder_on : (ps : List FolderPlace) (i : ℕ) (d : FolderPlace) (stale : Option Nid) (result : Told) → i < length ps → is_some stale ≡ false → Says bits_of (stale_in T ws (get_or ps i d)) (Ok stale)
      → Says bits_of (stale_below T ws (drop (i + 1) ps)) result → Says bits_of (stale_below T ws (drop i ps)) result
  folder_on ps i d stale result h none first next =
      rw (drop-cons ps i d) (or_rest (stale_in T ws (get_or ps i d)) (stale_below T ws (drop (suc i) ps)) stale result none first (rw add-one at next))

-- the message at an id
pub message_told : (T : Tree) (places : List FolderPlace) (ws : List Watch) (m : ℕ) (M N : Mes) (stale : Option Nid) → T.places ≡ places → Says {B = Mes} (λ x. x) (message_at T nothing m) (Ok M) → N ≡ M
    → bits_of stale ≡ stale_of places ws m N → Says bits_of (stale_at T ws m) (Ok stale)
unfolding stale_at
message_told T places ws m M N stale p first same is =
    then_says (λ x. x) bits_of (message_at T nothing m) (λ x. Ok (stale_of T.places ws m x)) M (Ok stale) first
    (is ∙ ap (λ ps. stale_of ps ws m N) (sym p) ∙ ap (stale_of T.places ws m) same)

-- the messages that a folder's table lists
pub listed_told : (T : Tree) (ws : List Watch) (f q : ℕ) (node : Tbl) (t : Tab) (ms : List ℕ) (result : Told) → q ≡ contents f → Says {B = Tbl} (λ t. t) (table_at T nothing q) (Ok node) → t ≡ node.table → ms ≡ message_ids t
    → Says bits_of (stale_among T ws ms) result → Says bits_of (stale_listed T ws f) result
unfolding stale_listed
listed_told T ws f q node t ms result there first same are next =
    then_says (λ t. t) bits_of (table_at T nothing (contents f)) (λ t. stale_among T ws (message_ids t.table)) node result (subst (λ q. Says {B = Tbl} (λ t. t) (table_at T nothing q) (Ok node)) there first)
    (subst (λ ids. Says bits_of (stale_among T ws ids) result) (are ∙ ap message_ids same) next)

-- ---- a search after another

module _ {D : Type 0} (view : D → List Watch) (T : Tree) where
  pub search_stops : (ss : List Search) (i : ℕ) (s : Search) (ws : List Watch) (stop : Stop) → i < length ss → s ≡ get_or ss i s → Says view (with_search T ws s) (Err stop) → Says view (watched T ws (drop i ss)) (Err stop)
  search_stops ss i s ws stop h is first =
      rw (drop-cons ss i s) (stop_says view view (with_search T ws (get_or ss i s)) (λ more. watched T more (drop (suc i) ss)) stop (subst (λ x. Says view (with_search T ws x) (Err stop)) is first))

  pub search_on : (ss : List Search) (i : ℕ) (s : Search) (ws : List Watch) (v : D) (result : Result D Stop) → i < length ss → s ≡ get_or ss i s → Says view (with_search T ws s) (Ok v)
      → Says view (watched T (view v) (drop (i + 1) ss)) result → Says view (watched T ws (drop i ss)) result
  search_on ss i s ws v result h is first next =
      rw (drop-cons ss i s) (then_says view view (with_search T ws (get_or ss i s)) (λ more. watched T more (drop (suc i) ss)) v result (subst (λ x. Says view (with_search T ws x) (Ok v)) is first) (rw add-one at next))
