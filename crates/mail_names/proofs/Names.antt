-- Names of properties, as the commands see them.
use Rattle.std.proofs.Common.{◌≡◌, ℕ, ◌+◌, ◌^◌, ◌<◌, ◌≤◌, ◌==◌, Bool, true, false, not, length, List, [], Option, None, Some, Result, Ok, Err, ap, if◌then◌else◌, refl, subst}
use Rattle.std.specs.Prelude.{nat_lt}
use Rattle.std.proofs.lemmas.Bool.{and_from, eq-eqb, le-leb, lt-ltb}
use Rattle.command_text.specs.declared.reply.CommandRefusal.TheVariants.{Limit, Line, Property}
use Rattle.command_text.specs.declared.reply.Limit.TheVariants as limits
use Rattle.mail_tree.specs.Changing.{◌>>=◌, context_at, known, nothing, refused_if, within_limits}
use Rattle.command_text.specs.declared.reply.LastLine.TheVariants.{Named}
use Rattle.mail_tree.specs.mail_objects.Forms.{Ctx}
use Rattle.command_text.specs.declared.reply.LastLine.{LastLine}
use Rattle.command_text.specs.declared.reply.Reply.{Reply}
use Rattle.mail_tree.specs.Folders.{Outcome, replied, replying, unchanged}
use Rattle.mail_tree.specs.Names.{NAMES, found_or_added, is_name, named_property, names_in, unless_nameless, with_another}
use Rattle.mail_tree.specs.Tree.{Tree}
use Rattle.mail_draft.specs.declared.stop.Stop.{Stop}
use Rattle.mail_draft.specs.Answers.{Says}
use Rattle.mail_draft.proofs.Passes.{passes}
use Rattle.named_props.specs.Finding.{is_property_named, name_at}
use Rattle.named_props.specs.Adding.{is_full, next_index}
use Rattle.named_props.specs.Holding.{names_of, written}
use Rattle.named_props.specs.declared.names.Names.{Names}
use Rattle.mail_tree.specs.Settling.{with_context}
use Rattle.mail_names.specs.Parts.{property_given}

-- an id of 8000h or more
pub nameless_says : (T : Tree) (id : ℕ) (result : Result (Unit {0}) Stop) → 0x8000 ≤ id
    → Says (λ (u : Unit {0}). u) (names_in T >>= λ n. refused_if (not (is_property_named n.entries id)) Property) result → Says (λ (u : Unit {0}). u) (unless_nameless T id) result
unfolding unless_nameless
nameless_says T id result high said = rw (le-leb 0x8000 id high) said

-- the words of each line are of the form of a name
pub are_name : (guid : List ℕ) (number : ℕ) → length guid ≡ 16 → number < 2 ^ 32 → is_name guid number ≡ true
are_name guid number long small = and_from (length guid == 16) (nat_lt number (2 ^ 32)) (eq-eqb (length guid) 16 long) (lt-ltb number (2 ^ 32) small)

pub name_says : {D : Type 0} (view : D → Outcome) (T : Tree) (guid : List ℕ) (number : ℕ) (result : Result D Stop) → length guid ≡ 16 → number < 2 ^ 32
    → Says view (context_at T nothing NAMES >>= λ c. known (names_of c.props) >>= λ n. found_or_added T c n guid number (name_at n.guids n.entries guid number)) result → Says view (named_property T guid number) result
unfolding named_property
name_says view T guid number result long small said = passes view (not (is_name guid number)) Line _ result (ap not (are_name guid number long small)) said

-- the property that a name gets is one for which there is room
given_room : (full : Bool) (property next : ℕ) → Some property ≡ (if full then None else Some next) → (full ≡ false) × (property ≡ next)
given_room true property next e = cc
given_room false property next e = (refl, cc)

none_full : (full : Bool) (next : ℕ) → None ≡ (if full then None else Some next) → full ≡ true
none_full true next e = refl
none_full false next e = cc

-- a name that is added
pub adds_says : {D : Type 0} (view : D → Outcome) (T : Tree) (x : Ctx) (n : Names) (guid : List ℕ) (number : ℕ) (property : ℕ) (result : Result D Stop)
    → Some property ≡ property_given n guid number → Says view (replying T None (replied (Named property)) (with_context NAMES x (written (with_another n guid number)) nothing)) result → Says view (found_or_added T x n guid number None) result
unfolding found_or_added
adds_says view T x n guid number property result given said =
    let room = given_room (is_full n guid number) property (0x8000 + next_index n.entries) given in
    rw room.0 (subst (λ p. Says view (replying T None (replied (Named p)) (with_context NAMES x (written (with_another n guid number)) nothing)) result) room.1 said)

-- a name for which there is no room
pub full_says : {D : Type 0} (view : D → Outcome) (T : Tree) (x : Ctx) (n : Names) (guid : List ℕ) (number : ℕ) (result : Result D Stop)
    → None ≡ property_given n guid number → Says view (within_limits T None (with_context NAMES x (written (with_another n guid number)) nothing) >>= λ u. Err (Some (Limit limits.Names))) result → Says view (found_or_added T x n guid number None) result
unfolding found_or_added
full_says view T x n guid number result none said = rw (none_full (is_full n guid number) (0x8000 + next_index n.entries) none) said

-- a name that is there
pub found_says : {D : Type 0} (view : D → Outcome) (T : Tree) (x : Ctx) (n : Names) (guid : List ℕ) (number : ℕ) (found : Option ℕ) (property : ℕ) (y : D)
    → found ≡ Some property → view y ≡ unchanged T (replied (Named property)) → Says view (found_or_added T x n guid number found) (Ok y)
unfolding found_or_added
found_says view T x n guid number found property y e same = rw e same

pub reply_is : (r : Reply) (last : LastLine) → r.lines ≡ [] → r.last ≡ last → r ≡ replied last
reply_is r last a b i = record { lines = a i; last = b i }
