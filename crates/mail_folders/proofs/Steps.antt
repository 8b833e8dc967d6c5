-- What a command says, from what its parts say.
use Rattle.std.specs.Prelude.{filter, nat_eq}
use Rattle.std.specs.Cmp.Lexicographic.{pointwise}
use Rattle.std.proofs.Common.{◌≡◌, ℕ, ◌+◌, ◌<◌, suc, List, [], ◌∷◌, ◌++◌, append_assoc, ap, ◌∙◌, length, get_or, drop, drop-cons, add-one, Option, None, Some, Result, Ok, Err, Bool, true, false, cond, ◌==◌, refl, subst, sym}
use Rattle.std.proofs.lemmas.Bool.{eq-eqb, eqb-true}
use Rattle.std.specs.Result.{IsErrAnd}
use Rattle.mail_tree.specs.declared.places.FolderPlace.{FolderPlace}
use Rattle.mail_tree.specs.Changing.{Answer, Changed, ◌>>=◌, associated, contents, context_at, message_at, newest, nothing, now_at, refused_if, table_at}
use Rattle.mail_tree.specs.Settling.{message_ids}
use Rattle.mail_tree.specs.Places.{is_child, is_plain}
use Rattle.mail_tree.specs.declared.places.Sort.TheVariants.{Plain}
use Rattle.command_text.specs.declared.reply.CommandRefusal.TheVariants.{NameTaken}
use Rattle.command_text.specs.declared.reply.Reply.{Reply}
use Rattle.command_text.specs.declared.reply.LastLine.{LastLine}
use Rattle.mail_tree.specs.mail_objects.Forms.{Ctx, Tbl}
use Rattle.mail_tree.specs.mail_objects.declared.object.Object.{Object}
use Rattle.std.specs.Ordering.{nat_cmp}
use Rattle.std.specs.FinMap as map
use Rattle.mapi_values.specs.Characters.{folded}
use Rattle.mapi_values.specs.Messages.{Mes}
use Rattle.command_text.specs.declared.reply.DataLine.{DataLine}
use Rattle.command_text.specs.declared.reply.DataLine.TheVariants as lines
use Rattle.mail_tree.specs.Values.{name_of, number_of, text_of}
use Rattle.mail_draft.specs.declared.draft.Draft.{Draft}
use Rattle.mail_draft.specs.Drafts.{changed_of}
use Rattle.mail_draft.specs.declared.stop.Stop.{Stop}
use Rattle.mail_draft.specs.Answers.{Says}
use Rattle.mail_tree.specs.Flags.{AreFlags, FlagList, known_name}
use Rattle.mail_tree.specs.Tree.{Tree, object_at}
use Rattle.mail_tree.specs.declared.note.Note.TheVariants.{Named}
use Rattle.mail_tree.proofs.NoteLaws.{note_of_name}
use Rattle.mail_tree.specs.Ids.{is_taken}
use Rattle.mail_tree.specs.Folders.{Outcome, folder_in, folder_line, folder_lines, has_associated, has_rows, listed, message_lines, nid, replied, unchanged, unless_named, unless_plain}
use Rattle.mail_folders.specs.Pieces.{both_plain_in, each, line_of_folder, line_of_message, has_associated_in, has_name, has_rows_in, ids_in, line_named, lines_in, lines_of_messages, name_in, plain_in, plain_listing, unless_has_name, with_messages}
use Rattle.mail_draft.proofs.Passes.{stop_says, then_says}

-- a stop that is passed on
pub stopped : {A B : Type 0} (view : B → A) (answer : Answer A) (stop : Stop) (result : Result B Stop) → IsErrAnd result (λ e. e ≡ stop) → Says view answer (Err stop) → Says view answer result
stopped view answer stop (Ok y) h says = absurd h
stopped view answer stop (Err e) h says = rw h says

-- steps grouped from the left, as steps grouped from the right
pub regroup : {A B C D : Type 0} (view : D → C) (answer : Answer A) (f : A → Answer B) (g : B → Answer C) (result : Result D Stop)
    → Says view ((answer >>= f) >>= g) result → Says view (answer >>= λ x. f x >>= g) result
regroup view (Ok x) f g result said = said
regroup view (Err e) f g result said = said

-- the same of a step after a test of three others
pub regroup_tests : {A B C E F D : Type 0} (view : D → F) (a : Answer A) (b : Answer B) (c : Answer C) (p : A → Bool) (q : B → Bool) (r : C → Bool) (d : Bool → Bool → Bool → Answer E)
    (g : E → Answer F) (result : Result D Stop)
    → Says view (((a >>= λ x. Ok (p x)) >>= λ x. (b >>= λ y. Ok (q y)) >>= λ y. (c >>= λ z. Ok (r z)) >>= λ z. d x y z) >>= g) result
    → Says view (a >>= λ x. b >>= λ y. c >>= λ z. d (p x) (q y) (r z) >>= g) result
regroup_tests view (Err e) b c p q r d g result said = said
regroup_tests view (Ok x) (Err e) c p q r d g result said = said
regroup_tests view (Ok x) (Ok y) (Err e) p q r d g result said = said
regroup_tests view (Ok x) (Ok y) (Ok z) p q r d g result said = said

-- what follows a plain folder, after the two steps that find it
pub from_plain : {C D : Type 0} (view : D → C) (T : Tree) (f : ℕ) (g : FolderPlace → Answer C) (result : Result D Stop)
    → Says view (plain_in T f >>= g) result → Says view (folder_in T f >>= λ p. unless_plain p >>= λ u. g p) result
unfolding plain_in
from_plain {C} view T f g result = find (folder_in T f)
  where
    find : (a : Answer FolderPlace) → Says view ((a >>= λ p. unless_plain p >>= λ u. Ok p) >>= g) result → Says view (a >>= λ p. unless_plain p >>= λ u. g p) result
    find (Ok p) said = regroup view (unless_plain p) (λ u. Ok p) g result said
    find (Err e) said = said

-- what follows two plain folders, after the four steps that find them
pub from_both : {C D : Type 0} (view : D → C) (T : Tree) (f h : ℕ) (g : FolderPlace → Answer C) (result : Result D Stop)
    → Says view (both_plain_in T f h >>= g) result → Says view (folder_in T f >>= λ p. folder_in T h >>= λ q. unless_plain p >>= λ u. unless_plain q >>= λ v. g p) result
unfolding both_plain_in
from_both {C} view T f h g result = find (folder_in T f) (folder_in T h)
  where
    test : (p : FolderPlace) (s t : Answer (Unit {0})) → Says view ((s >>= λ u. t >>= λ v. Ok p) >>= g) result → Says view (s >>= λ u. t >>= λ v. g p) result
    test p (Ok u) (Ok v) said = said
    test p (Ok u) (Err e) said = said
    test p (Err e) t said = said

    find : (a b : Answer FolderPlace) → Says view ((a >>= λ p. b >>= λ q. unless_plain p >>= λ u. unless_plain q >>= λ v. Ok p) >>= g) result
        → Says view (a >>= λ p. b >>= λ q. unless_plain p >>= λ u. unless_plain q >>= λ v. g p) result
    find (Ok p) (Ok q) said = test p (unless_plain p) (unless_plain q) said
    find (Ok p) (Err e) said = said
    find (Err e) b said = said

-- what is known of a folder says whether it has the name
pub name_known : (T : Tree) (name own : List ℕ) (f : ℕ) (flags : FlagList) → AreFlags (object_at T) flags → known_name f flags ≡ Some own → Says (λ b. b) (has_name T name f) (Ok (pointwise nat_eq own name))
unfolding has_name
name_known T name own f flags are is =
    let k = are f (Named own) (note_of_name f flags own is) in
    rw (map.get-empty nat_cmp f, k.1) (ap (λ (n : List ℕ). pointwise nat_eq n name) (sym k.2))

-- it is refused by whether the folder has the name
named_test : (T : Tree) (name : List ℕ) (f : ℕ) → unless_has_name T name f ≡ (has_name T name f >>= λ b. refused_if b NameTaken)
unfolding has_name unless_has_name
named_test T name f = test (context_at T nothing f)
  where
    test : (a : Answer Ctx)
        → (a >>= λ c. refused_if (pointwise nat_eq (folded false (name_of c.props)) name) NameTaken) ≡ ((a >>= λ c. Ok (pointwise nat_eq (folded false (name_of c.props)) name)) >>= λ b. refused_if b NameTaken)
    test (Ok c) = refl
    test (Err e) = refl

-- whether the folder has the name was told
pub named_told : (T : Tree) (name : List ℕ) (f : ℕ) (has : Bool) (result : Result (Unit {0}) Stop) → Says (λ b. b) (has_name T name f) (Ok has) → Says (λ u. u) (refused_if has NameTaken) result
    → Says (λ u. u) (unless_has_name T name f) result
named_told T name f has result told then = rw (named_test T name f) (then_says (λ b. b) (λ u. u) (has_name T name f) (λ b. refused_if b NameTaken) has result told then)

-- it wasn't told
pub named_untold : (T : Tree) (name : List ℕ) (f : ℕ) (stop : Stop) → Says {A = Bool} {B = Bool} (λ b. b) (has_name T name f) (Err stop)
    → Says {A = Unit {0}} {B = Unit {0}} (λ u. u) (unless_has_name T name f) (Err stop)
named_untold T name f stop first = rw (named_test T name f) (stop_says (λ b. b) (λ u. u) (has_name T name f) (λ b. refused_if b NameTaken) stop first)

-- the folder at i hasn't the name, nor have those after it
pub named_on : (T : Tree) (name fs : List ℕ) (i : ℕ) (result : Result (Unit {0}) Stop) → i < length fs
    → Says (λ u. u) (unless_has_name T name (get_or fs i 0)) (Ok tt) → Says (λ u. u) (unless_named T name (drop (i + 1) fs)) result
    → Says (λ u. u) (unless_named T name (drop i fs)) result
unfolding unless_has_name
named_on T name fs i result h first then =
    rw (drop-cons fs i 0) (regroup (λ u. u) (context_at T nothing (get_or fs i 0)) _ (λ u. unless_named T name (drop (suc i) fs)) result
    (then_says (λ u. u) (λ u. u) (unless_has_name T name (get_or fs i 0)) (λ u. unless_named T name (drop (suc i) fs)) tt result first (rw add-one at then)))

-- the folder at i has the name
pub named_stops : (T : Tree) (name fs : List ℕ) (i : ℕ) (stop : Stop) → i < length fs
    → Says {A = Unit {0}} {B = Unit {0}} (λ u. u) (unless_has_name T name (get_or fs i 0)) (Err stop) → Says {A = Unit {0}} {B = Unit {0}} (λ u. u) (unless_named T name (drop i fs)) (Err stop)
unfolding unless_has_name
named_stops T name fs i stop h first =
    rw (drop-cons fs i 0) (regroup (λ u. u) (context_at T nothing (get_or fs i 0)) _ (λ u. unless_named T name (drop (suc i) fs)) (Err stop)
    (stop_says (λ u. u) (λ u. u) (unless_has_name T name (get_or fs i 0)) (λ u. unless_named T name (drop (suc i) fs)) stop first))

-- it goes on with what one gives
pub each_goes : {B D : Type 0} (view : D → List B) (one : Answer B) (rest : Answer (List B)) (y : B) (out : List B) (result : Result D Stop)
    → Says (λ b. b) one (Ok y) → Says view (rest >>= λ more. Ok ((out ++ y ∷ []) ++ more)) result
    → Says view ((one >>= λ z. rest >>= λ zs. Ok (z ∷ zs)) >>= λ more. Ok (out ++ more)) result
each_goes view (Ok z) (Ok more) y out result first then =
    subst (λ w. Says view (Ok w) result) (append_assoc out (y ∷ []) more ∙ ap (λ w. out ++ w ∷ more) first) then
each_goes view (Ok z) (Err e) y out result first then = then
each_goes view (Err None) rest y out result first then = tt
each_goes view (Err (Some refusal)) rest y out result first then = absurd first

-- at an element
pub each_on : {A B D : Type 0} (view : D → List B) (f : A → Answer B) (xs : List A) (i : ℕ) (d : A) (y : B) (out out' : List B) (result : Result D Stop) → i < length xs → out' ≡ out ++ (y ∷ [])
    → Says (λ b. b) (f (get_or xs i d)) (Ok y) → Says view (each f (drop (i + 1) xs) >>= λ more. Ok (out' ++ more)) result
    → Says view (each f (drop i xs) >>= λ more. Ok (out ++ more)) result
each_on view f xs i d y out out' result h e first then =
    let moved = subst (λ w. Says view (each f (drop (suc i) xs) >>= λ more. Ok (w ++ more)) result) e (rw add-one at then) in
    rw (drop-cons xs i d) (each_goes view (f (get_or xs i d)) (each f (drop (suc i) xs)) y out result first moved)

-- it stops with what one stops with
pub each_stops : {A B D : Type 0} (view : D → List B) (f : A → Answer B) (xs : List A) (i : ℕ) (d : A) (out : List B) (stop : Stop) → i < length xs
    → Says {A = B} {B = B} (λ b. b) (f (get_or xs i d)) (Err stop) → Says view (each f (drop i xs) >>= λ more. Ok (out ++ more)) (Err stop)
each_stops view f xs i d out stop h first =
    rw (drop-cons xs i d) (stop_says view view _ _ stop (stop_says (λ b. b) view (f (get_or xs i d)) _ stop first))

-- a node at the id of the table is one
pub associated_there : (T : Tree) (f : ℕ) (result : Result Bool Stop) → true ≡ is_taken T (associated f) → Says (λ b. b) (has_rows_in T (associated f)) result
    → Says (λ b. b) (has_associated_in T f) result
unfolding has_rows_in has_associated_in
associated_there T f result e = rw (← e) (there (table_at T nothing (associated f)))
  where
    there : (a : Answer Tbl) → Says (λ b. b) (a >>= λ t. Ok (has_rows t)) result → Says (λ b. b) ((a >>= λ t. Ok (Some t)) >>= λ t. Ok (has_associated t)) result
    there (Ok t) said = said
    there (Err e) said = said

-- three changes, one after the other
pub in_turn : {C D : Type 0} (view : D → C) (a : Answer Changed) (f : Changed → Answer Changed) (g : Changed → Answer C) (x y : Draft) (result : Result D Stop)
    → Says changed_of a (Ok x) → Says changed_of (f (changed_of x)) (Ok y) → Says view (g (changed_of y)) result → Says view ((a >>= f) >>= g) result
in_turn view a f g x y result p q r = then_says changed_of view (a >>= f) g y result (then_says changed_of changed_of a f x (Ok y) p q) r

-- the second stops
pub stops_second : {C D : Type 0} (view : D → C) (a : Answer Changed) (f : Changed → Answer Changed) (g : Changed → Answer C) (x : Draft) (stop : Stop)
    → Says changed_of a (Ok x) → Says changed_of (f (changed_of x)) (Err stop) → Says view ((a >>= f) >>= g) (Err stop)
stops_second view a f g x stop p q = stop_says changed_of view (a >>= f) g stop (then_says changed_of changed_of a f x (Err stop) p q)

-- the first stops
pub stops_first : {C D : Type 0} (view : D → C) (a : Answer Changed) (f : Changed → Answer Changed) (g : Changed → Answer C) (stop : Stop)
    → Says {B = Draft} changed_of a (Err stop) → Says view ((a >>= f) >>= g) (Err stop)
stops_first view a f g stop p = stop_says changed_of view (a >>= f) g stop (stop_says changed_of changed_of a f stop p)

-- the second of two ways, where two numbers differ
pub otherwise : {C D : Type 0} (view : D → C) (a b : ℕ) (first second : Answer C) (result : Result D Stop) → (a ≡ b → ⊥) → Says view second result → Says view (cond (a == b) first second) result
otherwise view a b first second result differ says = pick (a == b) (λ e. differ (eqb-true a b e))
  where
    pick : (t : Bool) → (t ≡ true → ⊥) → Says view (cond t first second) result
    pick true never = absurd (never refl)
    pick false never = says

-- the first of two ways, where two numbers are the same
pub this_way : {C D : Type 0} (view : D → C) (a b : ℕ) (first second : Answer C) (result : Result D Stop) → a ≡ b → Says view first result → Says view (cond (a == b) first second) result
this_way view a b first second result same says = rw (eq-eqb a b same) says

-- the lines of folders, one by one
pub each_folder : (T : Tree) (ps : List FolderPlace) → each (line_of_folder T) ps ≡ folder_lines T ps
unfolding line_of_folder name_in
each_folder T [] = refl
each_folder T (p ∷ ps) = line (each (line_of_folder T) ps) (folder_lines T ps) (each_folder T ps) (context_at T nothing p.nid.bits)
  where
    line : (b d : Answer (List DataLine)) → b ≡ d → (a : Answer Ctx) → (((a >>= λ c. Ok (name_of c.props)) >>= λ n. Ok (line_named p n)) >>= λ y. b >>= λ ys. Ok (y ∷ ys)) ≡ (a >>= λ c. d >>= λ more. Ok (folder_line p c.props ∷ more))
    line b d same (Ok c) = ap (λ (r : Answer (List DataLine)). r >>= λ ys. Ok (folder_line p c.props ∷ ys)) same
    line b d same (Err e) = refl

-- the lines of messages, one by one
pub each_message : (T : Tree) (ms : List ℕ) → each (line_of_message T) ms ≡ message_lines T ms
unfolding line_of_message
each_message T [] = refl
each_message T (m ∷ ms) = line (each (line_of_message T) ms) (message_lines T ms) (each_message T ms) (message_at T nothing m)
  where
    told : Mes → DataLine
    told M = lines.Message (nid m) (number_of 0x0E08 M.props) (text_of 0x0037 M.props)

    line : (b d : Answer (List DataLine)) → b ≡ d → (a : Answer Mes) → ((a >>= λ M. Ok (told M)) >>= λ y. b >>= λ ys. Ok (y ∷ ys)) ≡ (a >>= λ M. d >>= λ more. Ok (told M ∷ more))
    line b d same (Ok M) = ap (λ (r : Answer (List DataLine)). r >>= λ ys. Ok (told M ∷ ys)) same
    line b d same (Err e) = refl

-- what is listed of a plain folder, line by line
pub lists_plain : (T : Tree) (f : ℕ) → plain_listing T f ≡ (folder_lines T (filter (is_child f) T.places) >>= λ folders. table_at T nothing (contents f) >>= λ t. message_lines T (message_ids t.table) >>= λ messages.
    Ok (unchanged T (listed (folders ++ messages))))
unfolding plain_listing lines_in with_messages lines_of_messages ids_in
lists_plain T f = rw (each_folder T (filter (is_child f) T.places)) (folders_first (folder_lines T (filter (is_child f) T.places)) (table_at T nothing (contents f)))
  where
    messages_last : (folders : List DataLine) (a : Answer (List DataLine)) → ((a >>= λ messages. Ok (folders ++ messages)) >>= λ all. Ok (unchanged T (listed all))) ≡ (a >>= λ messages. Ok (unchanged T (listed (folders ++ messages))))
    messages_last folders (Ok messages) = refl
    messages_last folders (Err e) = refl

    folders_first : (a : Answer (List DataLine)) (b : Answer Tbl)
        → ((a >>= λ folders. ((b >>= λ t. Ok (message_ids t.table)) >>= each (line_of_message T)) >>= λ messages. Ok (folders ++ messages)) >>= λ all. Ok (unchanged T (listed all)))
        ≡ (a >>= λ folders. b >>= λ t. message_lines T (message_ids t.table) >>= λ messages. Ok (unchanged T (listed (folders ++ messages))))
    folders_first (Ok folders) (Ok t) = rw (each_message T (message_ids t.table)) (messages_last folders (message_lines T (message_ids t.table)))
    folders_first (Ok folders) (Err e) = refl
    folders_first (Err e) b = refl

-- what is listed of a folder that is plain
pub lists_at : {D : Type 0} (view : D → Outcome) (T : Tree) (f : ℕ) (p : FolderPlace) (other : Answer Outcome) (result : Result D Stop) → p.sort ≡ Plain → Says view (plain_listing T f) result
    → Says view (cond (is_plain p) (folder_lines T (filter (is_child f) T.places) >>= λ folders. table_at T nothing (contents f) >>= λ t. message_lines T (message_ids t.table) >>= λ messages.
    Ok (unchanged T (listed (folders ++ messages)))) other) result
lists_at view T f p other result plain said = rw plain (subst (λ a. Says view a result) (lists_plain T f) said)

-- a reply without lines, by its parts
pub reply_is : (r : Reply) (last : LastLine) → r.lines ≡ [] → r.last ≡ last → r ≡ replied last
reply_is r last e e' = ap (λ (lines : List DataLine). record r { lines = lines }) e ∙ ap (λ (end : LastLine). record (replied last) { last = end }) e'

-- what stands there before anything is changed
pub now_nothing : (T : Tree) (q : ℕ) → now_at T nothing q ≡ object_at T q
now_nothing T q = ap (λ (r : Option (Option Object)). newest r (object_at T q)) (map.get-empty nat_cmp q)
