-- The lines of the messages that rows name.
use Rattle.std.proofs.Common.{◌≡◌, ℕ, ◌+◌, ◌<◌, suc, List, [], ◌∷◌, ◌++◌, append_assoc, ap, sym, subst, ◌∙◌, map, length, get_or, drop, drop-cons, add-one, inl, inr, if◌then◌else◌, Option, None, Some, is_some, Result, Ok, Err, Bool, true, false, refl}
use Rattle.std.proofs.lemmas.Bool.{cases_Bool}
use Rattle.std.proofs.lemmas.List.{append-nil}
use Rattle.std.specs.Ordering.{nat_cmp}
use Rattle.std.specs.FinMap as finmap
use Rattle.mapi_values.specs.Messages.{Mes}
use Rattle.mapi_values.specs.Values.{Val}
use Rattle.command_text.specs.declared.reply.DataLine.{DataLine}
use Rattle.command_text.specs.declared.reply.DataLine.TheVariants as lines
use Rattle.mail_objects.specs.declared.object.Object.{Object}
use Rattle.mail_objects.specs.declared.object.Object.TheVariants.{Context, Table, Message, Bare}
use Rattle.mail_tree.specs.Changing.{Answer, ◌>>=◌, as_message, known, nothing, now_at}
use Rattle.mail_tree.specs.Folders.{Outcome, listed, listing, nid, unchanged}
use Rattle.mail_tree.specs.Tree.{Tree, object_at}
use Rattle.mail_tree.specs.Values.{number_of, text_of}
use Rattle.mail_draft.specs.Answers.{Says}
use Rattle.mail_draft.specs.Sight.{AreOwn}
use Rattle.mail_draft.specs.declared.stop.Stop.{Stop}
use Rattle.mail_draft.proofs.Passes.{stop_says, then_says}
use Rattle.mail_folders.specs.Pieces.{line_of_message}
use Rattle.mail_folders.proofs.Steps.{regroup}
use Rattle.mail_searches.specs.Criteria.{marked, message_line}
use Rattle.mail_searches.specs.Relisting.{before_those, is_unclear, is_untold, named, unless_unclear}
use Rattle.mail_searches.specs.Searching.{Searching, is_own}
use Rattle.mail_searches.specs.Step.{listing_in}
use Rattle.search_results.specs.Counting.{message_told}
use Rattle.search_folders.specs.Pieces.{listing_where, named_line, named_lines}

-- what stands there before anything is changed
nothing_put : (q : ℕ) → finmap.get nothing.objects q ≡ None
nothing_put q = finmap.get-empty nat_cmp q

same_message : (T : Tree) (q : ℕ) → as_message (now_at T nothing q) ≡ as_message (object_at T q)
same_message T q = rw (nothing_put q) refl

unclear_is : (T : Tree) (q : ℕ) → is_unclear T nothing q ≡ is_untold T q
unclear_is T q = rw (nothing_put q) refl

-- a message tells its own id
own_id : (o : Option Object) (q : ℕ) (M : Mes) → ((m : Mes) → o ≡ Some (Message m) → m.nid ≡ q) → as_message o ≡ Some M → M.nid ≡ q
own_id None q M own is = cc
own_id (Some (Context c)) q M own is = cc
own_id (Some (Table t)) q M own is = cc
own_id (Some (Bare parent)) q M own is = cc
own_id (Some (Message m)) q M own is = let same : m ≡ M = cc in ap (λ (x : Mes). x.nid) (sym same) ∙ own m refl

-- the lines so far, where this is the message and it can be told whether it is one
abbrev line_by : List DataLine → Bool → Option Mes → Answer (List DataLine)
line_by before untold message = if untold then Err None else Ok (before ++ map message_line (before_those message []))

line_is : (T : Tree) (before : List DataLine) (q : ℕ) → named_line T before q ≡ line_by before (is_untold T q) (as_message (object_at T q))
unfolding named_line
line_is T before q = rw (unclear_is T q, same_message T q) refl

-- it is told whether there is a message
abbrev is_there_by : Bool → Option Mes → Answer Bool
is_there_by untold message = (if untold then Err None else Ok message) >>= λ M. Ok (is_some M)

-- there is none
pub no_line : {D : Type 0} (view : D → List DataLine) (T : Tree) (before : List DataLine) (q : ℕ) (out : D) → Says (λ b. b) (message_told T q) (Ok false) → view out ≡ before → Says view (named_line T before q) (Ok out)
no_line view T before q out told same = rw (line_is T before q) (go (is_untold T q) (as_message (object_at T q)) told)
  where
    go : (untold : Bool) (message : Option Mes) → Says (λ b. b) (is_there_by untold message) (Ok false) → Says view (line_by before untold message) (Ok out)
    go true message told = tt
    go false None told = same ∙ sym (append-nil before)
    go false (Some M) told = cc

-- the message's own line is that of its id
abbrev told : ℕ → Mes → DataLine
told q M = lines.Message (nid q) (number_of 0x0E08 M.props) (text_of 0x0037 M.props)

by_message : {D : Type 0} (view : D → List DataLine) (before : List DataLine) (q : ℕ) (untold : Bool) (message : Option Mes) (line : DataLine) (out : D) → ((M : Mes) → message ≡ Some M → M.nid ≡ q)
    → Says (λ b. b) (is_there_by untold message) (Ok true) → Says {B = DataLine} (λ l. l) (known message >>= λ M. Ok (told q M)) (Ok line) → view out ≡ before ++ (line ∷ []) → Says view (line_by before untold message) (Ok out)
by_message view before q true message line out own there said is = tt
by_message view before q false None line out own there said is = cc
by_message view before q false (Some M) line out own there said is = is ∙ ap (λ l. before ++ (l ∷ [])) (said ∙ ap (λ n. lines.Message (nid n) (number_of 0x0E08 M.props) (text_of 0x0037 M.props)) (sym (own M refl)))

stop_by : {D : Type 0} (view : D → List DataLine) (before : List DataLine) (q : ℕ) (untold : Bool) (message : Option Mes) (stop : Stop)
    → Says (λ b. b) (is_there_by untold message) (Ok true) → Says {B = DataLine} (λ l. l) (known message >>= λ M. Ok (told q M)) (Err stop) → Says view (line_by before untold message) (Err stop)
stop_by view before q true message stop there said = tt
stop_by view before q false None stop there said = cc
stop_by view before q false (Some M) stop there said = said

pub one_line : {D : Type 0} (view : D → List DataLine) (T : Tree) (own : AreOwn T) (before : List DataLine) (q : ℕ) (line : DataLine) (out : D) → Says (λ b. b) (message_told T q) (Ok true)
    → Says (λ l. l) (line_of_message T q) (Ok line) → view out ≡ before ++ (line ∷ []) → Says view (named_line T before q) (Ok out)
unfolding line_of_message
one_line view T own before q line out there said is =
    rw (line_is T before q)
    (by_message view before q (is_untold T q) (as_message (object_at T q)) line out (λ M here. own_id (object_at T q) q M (own q) here) there (rw (same_message T q) at said) is)

pub line_stops : {D : Type 0} (view : D → List DataLine) (T : Tree) (before : List DataLine) (q : ℕ) (stop : Stop) → Says (λ b. b) (message_told T q) (Ok true)
    → Says {A = DataLine} {B = DataLine} (λ l. l) (line_of_message T q) (Err stop) → Says view (named_line T before q) (Err stop)
unfolding line_of_message
line_stops view T before q stop there said = rw (line_is T before q) (stop_by view before q (is_untold T q) (as_message (object_at T q)) stop there (rw (same_message T q) at said))

-- it couldn't be asked
pub asking_stops : {D : Type 0} (view : D → List DataLine) (T : Tree) (before : List DataLine) (q : ℕ) (stop : Stop) → Says {B = Bool} (λ b. b) (message_told T q) (Err stop) → Says view (named_line T before q) (Err stop)
asking_stops view T before q stop asked = rw (line_is T before q) (go (is_untold T q) (as_message (object_at T q)) asked)
  where
    go : (untold : Bool) (message : Option Mes) → Says {B = Bool} (λ b. b) (is_there_by untold message) (Err stop) → Says view (line_by before untold message) (Err stop)
    go true message asked = tt
    go false message asked = asked

-- all lines, with those of the rows that are left
all_after : (T : Tree) (before : List DataLine) (rows : List (ℕ × List Val)) → named_lines T before rows ≡ (unless_unclear T nothing rows >>= λ u. Ok (before ++ map message_line (named T nothing rows)))
unfolding named_line
all_after T before [] = ap Ok (sym (append-nil before))
all_after T before (r ∷ rs) = elim (cases_Bool (is_unclear T nothing r.0)) [
  | inl t ↦ rw t refl
  | inr f ↦ rw f (all_after T (before ++ map message_line (before_those (as_message (now_at T nothing r.0)) [])) rs ∙ rest (unless_unclear T nothing rs) (as_message (now_at T nothing r.0)))
]
  where
    rest : (a : Answer (Unit {0})) (message : Option Mes)
        → (a >>= λ u. Ok ((before ++ map message_line (before_those message [])) ++ map message_line (named T nothing rs))) ≡ (a >>= λ u. Ok (before ++ map message_line (before_those message (named T nothing rs))))
    rest (Err e) message = refl
    rest (Ok u) None = ap (λ l. Ok (l ++ map message_line (named T nothing rs))) (append-nil before)
    rest (Ok u) (Some M) = ap Ok (append_assoc before (message_line M ∷ []) (map message_line (named T nothing rs)))

pub all_lines : (T : Tree) (rows : List (ℕ × List Val)) → named_lines T [] rows ≡ (unless_unclear T nothing rows >>= λ u. Ok (map message_line (named T nothing rows)))
all_lines T rows = all_after T [] rows

-- at a row
pub lines_on : {D : Type 0} (view : D → List DataLine) (T : Tree) (before : List DataLine) (rows : List (ℕ × List Val)) (i : ℕ) (row : ℕ × List Val) (out : D) (result : Result D Stop) → i < length rows → row ≡ get_or rows i row
    → Says view (named_line T before row.0) (Ok out) → Says view (named_lines T (view out) (drop (i + 1) rows)) result → Says view (named_lines T before (drop i rows)) result
lines_on view T before rows i row out result h is first rest =
    let here = subst (λ (x : ℕ × List Val). Says view (named_line T before x.0) (Ok out)) is first in
    rw (drop-cons rows i row) (then_says view view (named_line T before (get_or rows i row).0) (λ more. named_lines T more (drop (suc i) rows)) out result here (rw add-one at rest))

pub lines_stop : {D : Type 0} (view : D → List DataLine) (T : Tree) (before : List DataLine) (rows : List (ℕ × List Val)) (i : ℕ) (row : ℕ × List Val) (stop : Stop) → i < length rows → row ≡ get_or rows i row
    → Says {B = D} view (named_line T before row.0) (Err stop) → Says view (named_lines T before (drop i rows)) (Err stop)
lines_stop view T before rows i row stop h is first =
    let here = subst (λ (x : ℕ × List Val). Says view (named_line T before x.0) (Err stop)) is first in
    rw (drop-cons rows i row) (stop_says view view (named_line T before (get_or rows i row).0) (λ more. named_lines T more (drop (suc i) rows)) stop here)

-- what is listed of a search, after all lines
pub search_lists : {A D : Type 0} (items : A → List DataLine) (view : D → Outcome) (T : Tree) (rows : List (ℕ × List Val)) (lines : A) (result : Result D Stop) → Says items (named_lines T [] rows) (Ok lines)
    → Says view (Ok (unchanged T (listed (items lines)))) result → Says view (unless_unclear T nothing rows >>= λ u. Ok (unchanged T (listed (map message_line (named T nothing rows))))) result
search_lists items view T rows lines result said last =
    let first = subst (λ a. Says items a (Ok lines)) (all_lines T rows) said in
    regroup view (unless_unclear T nothing rows) (λ u. Ok (map message_line (named T nothing rows))) (λ all. Ok (unchanged T (listed all))) result
    (then_says items view (unless_unclear T nothing rows >>= λ u. Ok (map message_line (named T nothing rows))) (λ all. Ok (unchanged T (listed all))) lines result first last)

pub search_stops : {A D : Type 0} (items : A → List DataLine) (view : D → Outcome) (T : Tree) (rows : List (ℕ × List Val)) (stop : Stop) → Says items (named_lines T [] rows) (Err stop)
    → Says view (unless_unclear T nothing rows >>= λ u. Ok (unchanged T (listed (map message_line (named T nothing rows))))) (Err stop)
search_stops items view T rows stop said =
    let first = subst (λ a. Says items a (Err stop)) (all_lines T rows) said in
    regroup view (unless_unclear T nothing rows) (λ u. Ok (map message_line (named T nothing rows))) (λ all. Ok (unchanged T (listed all))) (Err stop)
    (stop_says items view (unless_unclear T nothing rows >>= λ u. Ok (map message_line (named T nothing rows))) (λ all. Ok (unchanged T (listed all))) stop first)

-- what is listed of a folder that is no own search folder
pub lists_folder : {D : Type 0} (view : D → Outcome) (T : Tree) (f : ℕ) (own : List ℕ) (y : D) (result : Result D Stop) → is_own own f ≡ false → Says view (listing T f) (Ok y)
    → Says view (Ok (record (view y) { reply = marked own (view y).reply })) result → Says view (listing_where T own f) result
unfolding listing_where
lists_folder view T f own y result other first last = rw other (then_says view view (listing T f) (λ o. Ok (record o { reply = marked own o.reply })) y result first last)

-- where the own search folders are those that are known
pub listing_says : {D : Type 0} (view : D → Outcome) (X : Searching) (f : ℕ) (own : List ℕ) (result : Result D Stop) → X.own ≡ own → Says view (listing_where X.tree own f) result → Says view (listing_in X f) result
unfolding listing_where listing_in
listing_says view X f own result same said = rw same said
