-- The message that an id names has that id.
use Rattle.std.proofs.Common.{◌≡◌, ℕ, Option, None, Some, Ok, Err, ◌==◌, not, is_some, refl, sym, ap, ◌∙◌}
use Rattle.std.specs.FinMap as map
use Rattle.std.specs.Ordering.{nat_cmp}
use Rattle.pst_base.specs.Ids.{kind_of}
use Rattle.command_text.specs.declared.reply.CommandRefusal.TheVariants.{Object as NoObject, Property}
use Rattle.command_text.specs.declared.reply.LastLine.TheVariants.{Value}
use Rattle.mapi_values.specs.declared.value.Tag.{Tag}
use Rattle.mapi_values.specs.Tables.{find_row}
use Rattle.mapi_values.specs.Messages.{Mes}
use Rattle.mail_objects.specs.declared.object.Object.{Object}
use Rattle.mail_objects.specs.declared.object.Object.TheVariants.{Context, Table, Message, Bare}
use Rattle.mail_tree.specs.Tree.{Tree, object_at}
use Rattle.mail_tree.proofs.AfterTree.{now_nothing}
use Rattle.mail_tree.specs.Changing.{Answer, ◌>>=◌, as_message, contents, found, known, message_at, newest, nothing, now_at, refused_if, table_at}
use Rattle.mail_tree.specs.Folders.{Outcome, replied, unchanged}
use Rattle.mail_tree.specs.Messages.{message_in, parent_at, value_in, value_of}
use Rattle.mail_tree.specs.Places.{find_place, is_plain}
use Rattle.mail_draft.specs.Sight.{AreOwn}
use Rattle.mail_messages.specs.Finding.{is_listed, is_there, listed_below}
use Rattle.mail_messages.specs.Parts.{value_reply}
use Rattle.mail_messages.specs.Reading.{value_at}

-- the last of two steps gave the answer
bind_ok : {A B : Type 0} (answer : Answer A) (f : A → Answer B) (y : B) → (answer >>= f) ≡ Ok y → (x : A) × (f x ≡ Ok y)
bind_ok (Ok x) f y e = (x, e)
bind_ok (Err r) f y e = cc

is_message : (o : Option Object) (M : Mes) → known (as_message o) ≡ Ok M → o ≡ Some (Message M)
is_message None M e = cc
is_message (Some (Context c)) M e = cc
is_message (Some (Table t)) M e = cc
is_message (Some (Bare parent)) M e = cc
is_message (Some (Message m)) M e = cc

-- before any change, what stands at an id is what the tree has there
pub stands-there : (T : Tree) (m : ℕ) (M : Mes) → as_message (now_at T nothing m) ≡ Some M → as_message (object_at T m) ≡ Some M
stands-there T m M here = ap as_message (sym (ap (λ at. at m) (now_nothing T))) ∙ here

-- steps one after another, grouped from the right
joined : {A B C : Type 0} (answer : Answer A) (f : A → Answer B) (g : B → Answer C) (h : A → Answer C) → ((x : A) → (f x >>= g) ≡ h x) → ((answer >>= f) >>= g) ≡ (answer >>= h)
joined (Ok x) f g h e = e x
joined (Err r) f g h e = refl

row-there : (T : Tree) (m f : ℕ) → (is_listed T m f >>= λ u. message_at T nothing m) ≡ (table_at T nothing (contents f) >>= λ t. refused_if (not (is_some (find_row m t.table.rows))) NoObject >>= λ u. message_at T nothing m)
unfolding is_listed
row-there T m f = joined (table_at T nothing (contents f)) (λ t. refused_if (not (is_some (find_row m t.table.rows))) NoObject) (λ u. message_at T nothing m) _ (λ t. refl)

below-there : (T : Tree) (m f : ℕ) → (listed_below T m f >>= λ u. message_at T nothing m) ≡ (found NoObject (find_place f T.places) >>= λ p. refused_if (not (is_plain p)) NoObject >>= λ u. table_at T nothing (contents f) >>= λ t.
    refused_if (not (is_some (find_row m t.table.rows))) NoObject >>= λ w. message_at T nothing m)
unfolding listed_below
below-there T m f = joined (found NoObject (find_place f T.places)) (λ p. refused_if (not (is_plain p)) NoObject >>= λ u. is_listed T m f) (λ u. message_at T nothing m) _ (λ p.
    joined (refused_if (not (is_plain p)) NoObject) (λ u. is_listed T m f) (λ u. message_at T nothing m) _ (λ u. row-there T m f))

-- the message with an id is the one that stands there, where it is listed
pub there : (T : Tree) (m : ℕ) → (is_there T m >>= λ u. message_at T nothing m) ≡ message_in T m
unfolding is_there message_in
there T m = joined (refused_if (not (kind_of m == 4)) NoObject) (λ u. found NoObject (parent_at T m) >>= listed_below T m) (λ u. message_at T nothing m) _ (λ u.
    joined (found NoObject (parent_at T m)) (listed_below T m) (λ v. message_at T nothing m) _ (below-there T m))

-- what comes of the same first step
same-after : {A B : Type 0} (answer : Answer A) (f g : A → Answer B) → ((x : A) → f x ≡ g x) → (answer >>= f) ≡ (answer >>= g)
same-after (Ok x) f g e = e x
same-after (Err r) f g e = refl

-- `get` looks whether the message is listed, and then for the value
pub value-there : (T : Tree) (m : ℕ) (tag : Tag) → (is_there T m >>= λ u. value_at T m tag >>= λ r. Ok (unchanged T r)) ≡ value_in T m tag
unfolding value_in value_at
value-there T m tag =
    let told : Mes → Answer Outcome = λ M. found Property (value_of tag M.props) >>= λ v. Ok (unchanged T (replied (Value v))) in
    same-after (is_there T m) (λ u. value_at T m tag >>= λ r. Ok (unchanged T r)) (λ u. message_at T nothing m >>= told) (λ u.
    joined (message_at T nothing m) (λ M. value_reply tag M.props) (λ r. Ok (unchanged T r)) told (λ M.
    joined (found Property (value_of tag M.props)) (λ v. Ok (replied (Value v))) (λ r. Ok (unchanged T r)) (λ v. Ok (unchanged T (replied (Value v)))) (λ v. refl)))
    ∙ sym (joined (is_there T m) (λ u. message_at T nothing m) told (λ u. message_at T nothing m >>= told) (λ u. refl)) ∙ ap (λ a. a >>= told) (there T m)

found_at : (T : Tree) (m : ℕ) (M : Mes) → message_in T m ≡ Ok M → message_at T nothing m ≡ Ok M
found_at T m M e = (bind_ok (is_there T m) (λ u. message_at T nothing m) M (there T m ∙ e)).1

-- the message that is found has the id
pub its_id : (T : Tree) (m : ℕ) (M : Mes) → AreOwn T → message_in T m ≡ Ok M → M.nid ≡ m
its_id T m M own e =
    let old : map.get (nothing.objects) m ≡ None = map.get-empty nat_cmp m in
    let known_there = ap (λ (o : Option (Option Object)). known (as_message (newest o (object_at T m)))) (sym old) ∙ found_at T m M e in
    own m M (is_message (object_at T m) M known_there)
