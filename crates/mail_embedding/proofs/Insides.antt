-- What is made of the message in an attachment, step by step.
use Rattle.std.proofs.Common.{◌≡◌, inl, inr, ℕ, List, Bool, true, false, Option, None, Some, Result, Ok, Err, not, ap, refl, subst, sym, ◌||◌}
use Rattle.std.specs.Option.{is_some}
use Rattle.mapi_values.specs.Messages.{Mes, size}
use Rattle.mapi_values.specs.Properties.{put, remove_id}
use Rattle.mapi_values.specs.Values.{Val}
use Rattle.mapi_values.specs.declared.part.Part.{Part}
use Rattle.mapi_values.specs.declared.value.Tag.{Tag}
use Rattle.command_text.specs.declared.command.Command.{Command}
use Rattle.command_text.specs.declared.reply.CommandRefusal.TheVariants.{Ids, Limit, Object, Property, Protected}
use Rattle.command_text.specs.declared.reply.Limit.TheVariants.{Nesting, Properties, Rows}
use Rattle.mail_tree.specs.Tree.{Tree}
use Rattle.mail_tree.specs.Changing.{Answer, ◌>>=◌, crowds_message, found}
use Rattle.mail_tree.specs.Ids.{is_spent}
use Rattle.command_text.specs.declared.reply.LastLine.TheVariants.{Value}
use Rattle.mail_tree.specs.Folders.{replied}
use Rattle.mail_tree.specs.Messages.{is_overfull, message_in, value_of}
use Rattle.mail_parts.specs.mail_messages.Parts.{value_reply}
use Rattle.mail_tree.specs.Names.{unless_nameless}
use Rattle.mail_tree.specs.Parts.{is_full, next_part, part_in}
use Rattle.mail_tree.specs.Values.{bytes_of, finished, is_set_protected, is_unset_protected, with_props}
use Rattle.mail_tree.specs.Whole.{Fine, IsWhole}
use Rattle.mail_tree.proofs.FineLaws.{after_test, fine_test, fine_then}
use Rattle.mail_laws.proofs.LawSteps.{before}
use Rattle.mail_laws.proofs.MessageSteps.{fine_message_in, fine_nameless}
use Rattle.write_limits.specs.Limits.{message_fits}
use Rattle.embedded_obj.specs.Embedding.{ShowsInner, becoming, embedding, is_uncopied, lacks_room, lacks_rows, nests_deep, set_inside, unset_inside}
use Rattle.mail_parts.specs.mail_draft.declared.stop.Stop.{Stop}
use Rattle.mail_parts.specs.mail_draft.Answers.{IsNoMatter, Says}
use Rattle.mail_embedding.specs.Meant.{Inside, Puts, Tells, attachment_of, embedding_of}
use Rattle.mail_embedding.specs.declared.meaning.Meaning.TheVariants.{Becomes, Replies}

-- ---- all that is asked is of its form

pub fine_attachment : (T : Tree) (m n : ℕ) → IsWhole T → Fine (attachment_of T m n) (λ part. Unit {0})
unfolding attachment_of
fine_attachment T m n w = fine_then _ (λ part. Unit {0}) (message_in T m) _ (fine_message_in T m (before T w)) (λ M h. fine_found (part_in n M))
  where
    fine_found : (o : Option Part) → Fine (found Object o) (λ part. Unit {0})
    fine_found None = tt
    fine_found (Some part) = tt

fine_embedding : (M x : Mes) (name : List ℕ) → Fine (embedding M x name) (λ u. Unit {0})
unfolding embedding
fine_embedding M x name = after_test (λ u. Unit {0}) (lacks_rows M x name) (Limit Rows) _ (λ a. after_test (λ u. Unit {0}) (nests_deep x) (Limit Nesting) _ (λ b. fine_test (is_spent (next_part M)) Ids))

pub fine_embedding_of : (T : Tree) (m source : ℕ) (name : List ℕ) → IsWhole T → Fine (embedding_of T m source name) (λ x. Unit {0})
unfolding embedding_of
fine_embedding_of T m source name w = fine_then _ (λ x. Unit {0}) (message_in T m) _ (fine_message_in T m (before T w)) (λ M h. fine_then _ (λ x. Unit {0}) (message_in T source) _ (fine_message_in T source (before T w))
    (λ x k. fine_then (λ u. Unit {0}) (λ x. Unit {0}) (embedding M x name) _ (fine_embedding M x name) (λ u l. tt)))

fine_becoming : (old new : Mes) → Fine (becoming old new) (λ m. Unit {0})
unfolding becoming
fine_becoming old new = after_test (λ m. Unit {0}) (not (message_fits (finished new))) (Limit Rows) _ (λ a. after_test (λ m. Unit {0}) (crowds_message old (finished new)) (Limit Properties) _ (λ b. tt))

pub fine_set : (T : Tree) (v : Val) (m : Mes) → IsWhole T → Fine (set_inside T v m) (λ e. Unit {0})
unfolding set_inside
fine_set T v m w = after_test (λ e. Unit {0}) (is_set_protected v.id m.props) Protected _ (λ a.
    fine_then (λ u. Unit {0}) (λ e. Unit {0}) (unless_nameless T v.id) _ (fine_nameless T v.id (before T w)) (λ u b. fine_becoming m (with_props (put v m.props) m)))

pub fine_unset : (tag : Tag) (m : Mes) → Fine (unset_inside tag m) (λ e. Unit {0})
unfolding unset_inside
fine_unset tag m = after_test (λ e. Unit {0}) (is_unset_protected tag.id tag.kind m.props) Protected _ (λ a. after_test (λ e. Unit {0}) (not (is_some (bytes_of tag.id tag.kind m.props))) Property _
    (λ b. fine_becoming m (with_props (remove_id tag.id m.props) m)))

pub fine_reply : (tag : Tag) (props : List Val) → Fine (value_reply tag props >>= λ r. Ok (Replies r)) (λ m. Unit {0})
fine_reply tag props = by (value_of tag props)
  where
    by : (o : Option Val) → Fine ((found Property o >>= λ v. Ok (replied (Value v))) >>= λ r. Ok (Replies r)) (λ m. Unit {0})
    by None = tt
    by (Some v) = tt

-- ---- what is told of it

pub tells : {A : Type 0} (a : Answer A) (result : Result A Stop) (P : A → Type 0) → Fine a P → Says (λ y. y) a result → Tells a result
tells (Ok x) result P fine says = says
tells (Err (Some refusal)) result P fine says = says
tells (Err None) result P fine says = absurd fine

told_is : {A : Type 0} (a : Answer A) (x : A) → Tells a (Ok x) → a ≡ Ok x
told_is (Ok y) x same = ap Ok (sym same)
told_is (Err (Some refusal)) x none = absurd none
told_is (Err None) x none = absurd none

-- ---- the message in an attachment

abbrev pub IsIt : Part → Mes → Result Mes Stop → Type 0
IsIt part m result = result ≡ Ok m

-- the attachment was found: what is made of it is made of this one
pub inside_found : {A : Type 0} (a : Answer Part) (part : Part) (P : Part → Mes → Result A Stop → Type 0) (result : Result A Stop) → Tells a (Ok part) → Inside (Ok part) P result → Inside a P result
inside_found a part P result told is = subst (λ b. Inside b P result) (sym (told_is a part told)) is

-- it couldn't be read
pub inside_lost : {A : Type 0} (a : Answer Part) (stop : Stop) (P : Part → Mes → Result A Stop → Type 0) → Tells {A = Part} a (Err stop) → Inside a P (Err stop)
inside_lost (Ok part) stop P lost = inr (inr lost)
inside_lost (Err (Some refusal)) stop P refused = refused
inside_lost (Err None) stop P none = none

-- the message was found: what is made of it is made of this one
pub inside_next : {A : Type 0} (a : Answer Part) (m : Mes) (P : Part → Mes → Result A Stop → Type 0) (result : Result A Stop) → Inside {A = Mes} a IsIt (Ok m) → ((part : Part) → ShowsInner part m → P part m result) → Inside a P result
inside_next (Ok part) m P result (inl is) next =
    let same : m ≡ is.0 = ok_is is.2 in
    inl (m, subst (λ e. ShowsInner part e) (sym same) is.1, next part (subst (λ e. ShowsInner part e) (sym same) is.1))
  where
    ok_is : {e : Mes} → ◌≡◌ {A = Result Mes Stop} (Ok m) (Ok e) → m ≡ e
    ok_is same = cc
inside_next (Ok part) m P result (inr (inl is)) next = absurd is.1
inside_next (Ok part) m P result (inr (inr is)) next = absurd is
inside_next (Err (Some refusal)) m P result is next = absurd is
inside_next (Err None) m P result is next = absurd is

-- it couldn't be read, or there is none
pub inside_stops : {A : Type 0} (a : Answer Part) (stop : Stop) (P : Part → Mes → Result A Stop → Type 0) → Inside {A = Mes} a IsIt (Err stop) → Inside a P (Err stop)
inside_stops (Ok part) stop P (inl is) = absurd (err_ok is.2)
  where
    err_ok : {e : Mes} → ◌≡◌ {A = Result Mes Stop} (Err stop) (Ok e) → ⊥
    err_ok same = cc
inside_stops (Ok part) stop P (inr (inl is)) = inr (inl is)
inside_stops (Ok part) stop P (inr (inr is)) = inr (inr is)
inside_stops (Err (Some refusal)) stop P is = is
inside_stops (Err None) stop P is = is

-- ---- what becomes a command

pub puts_it : (a : Answer Mes) (m : Mes) (c : Command) (P : Mes → Command → Type 0) → Tells a (Ok m) → P m c → Puts a P (Ok (Becomes c))
puts_it a m c P told is = subst (λ b. Puts b P (Ok (Becomes c))) (sym (told_is a m told)) is

pub puts_lost : (a : Answer Mes) (stop : Stop) (P : Mes → Command → Type 0) → Tells {A = Mes} a (Err stop) → Puts a P (Err stop)
puts_lost (Ok m) stop P lost = lost
puts_lost (Err (Some refusal)) stop P refused = refused
puts_lost (Err None) stop P none = none

-- where it is as it is to be, but memory runs out
pub puts_none : (a : Answer Mes) (m : Mes) (stop : Stop) (P : Mes → Command → Type 0) → Tells a (Ok m) → IsNoMatter stop → Puts a P (Err stop)
puts_none a m stop P told lost = subst (λ b. Puts b P (Err stop)) (sym (told_is a m told)) lost

-- ---- a copy that may be made may be written

or_false : (a b : Bool) → (a || b) ≡ false → (a ≡ false) × (b ≡ false)
or_false false b is = (refl, is)
or_false true b is = cc

not_false : (b : Bool) → not b ≡ false → b ≡ true
not_false true is = refl
not_false false is = cc

pub copy_fits : (m x : Mes) (name : List ℕ) → lacks_rows m x name ≡ false → message_fits x ≡ true
unfolding lacks_rows is_uncopied
copy_fits m x name lacks =
    let rows = (or_false (is_uncopied m x) (lacks_room name (size x) m) lacks).0 in
    let copied = (or_false (is_full m.attachments) (is_overfull x.recipients || (is_overfull x.attachments || not (message_fits x))) rows).1 in
    let parts = (or_false (is_overfull x.recipients) (is_overfull x.attachments || not (message_fits x)) copied).1 in
    not_false (message_fits x) (or_false (is_overfull x.attachments) (not (message_fits x)) parts).1
