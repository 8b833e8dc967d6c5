-- What the nodes tell of the message that stands at an id, and what was put there.
use Rattle.std.proofs.Common.{◌≡◌, ◌∙◌, ℕ, ◌==◌, not, Bool, true, Option, None, Some, Ok, Err, IfOk, option_map, refl, sym, ap, subst, inl, inr, if◌then◌else◌}
use Rattle.std.proofs.lemmas.Bool.{cases_Bool}
use Rattle.std.specs.Option.{is_some}
use Rattle.std.specs.FinMap as map
use Rattle.pst_base.specs.Ids.{kind_of}
use Rattle.command_text.specs.declared.reply.CommandRefusal.TheVariants.{Object as NoObject}
use Rattle.mapi_values.specs.Messages.{Mes}
use Rattle.mapi_values.specs.Tables.{find_row}
use Rattle.mail_objects.specs.declared.object.Object.{Object}
use Rattle.mail_tree.specs.Changing.{Answer, Changed as Changes, ◌>>=◌, as_message, contents, found, known, message_at, nothing, refused_if, table_at}
use Rattle.mail_tree.specs.Flags.{AreFlags, FlagList, known_flag}
use Rattle.mail_tree.specs.Messages.{message_in, parent_at}
use Rattle.mail_tree.specs.Places.{find_place, is_plain}
use Rattle.mail_tree.specs.declared.note.Note.TheVariants.{Unread}
use Rattle.mail_tree.proofs.NoteLaws.{note_of_flag}
use Rattle.mail_tree.specs.Tree.{Tree, object_at}
use Rattle.mail_tree.specs.Values.{is_read}
use Rattle.mail_draft.specs.declared.stop.Stop.{Stop}
use Rattle.mail_draft.specs.declared.stop.Stop.TheVariants.{Refused, Fault, Changed, Memory}
use Rattle.mail_draft.specs.Answers.{Says}
use Rattle.mail_draft.specs.Unread.{flag_of}
use Rattle.mail_searches.specs.Relisting.{agrees, is_untold}
use Rattle.search_results.specs.Counting.{flag_at, found_at, kept_flag, message_told, none_if_refused}
use Rattle.search_results.proofs.StoodLaws.{now_nothing}

module _ (T : Tree) (q : ℕ) where
  -- what is found stands there
  found_is : IfOk (message_in T q) (λ M. as_message (object_at T q) ≡ Some M)
  unfolding message_in
  found_is =
      next (refused_if (not (kind_of q == 4)) NoObject) _ (λ u. next (found NoObject (parent_at T q)) _ (λ f. next (found NoObject (find_place f T.places)) _ (λ p.
      next (refused_if (not (is_plain p)) NoObject) _ (λ v. next (table_at T nothing (contents f)) _ (λ t. next (refused_if (not (is_some (find_row q t.table.rows))) NoObject) _ (λ w. there))))))
    where
      IsThere : Mes → Type 0
      IsThere M = as_message (object_at T q) ≡ Some M

      next : {A : Type 0} (a : Answer A) (f : A → Answer Mes) → ((x : A) → IfOk (f x) IsThere) → IfOk (a >>= f) IsThere
      next (Ok x) f h = h x
      next (Err e) f h = tt

      pick : (o : Option Mes) → IfOk (known o) (λ M. o ≡ Some M)
      pick None = tt
      pick (Some M) = refl

      there : IfOk (message_at T nothing q) IsThere
      there = subst (λ o. IfOk (known (as_message o)) IsThere) (sym (now_nothing T q)) (pick (as_message (object_at T q)))

  -- so what a look for a message tells is told of the id
  pub found_ok : (M : Mes) → Says (λ m. m) (message_in T q) (Ok M) → Says (λ m. m) (found_at T q) (Ok (Some M))
  found_ok M said = go (message_in T q) (as_message (object_at T q)) found_is said
    where
      go : (a : Answer Mes) (o : Option Mes) → IfOk a (λ N. o ≡ Some N) → Says (λ m. m) a (Ok M) → Says (λ m. m) (if not (agrees a o) then Err None else Ok o) (Ok (Some M))
      go (Ok N) o is said = ap Some said ∙ sym is
      go (Err None) o is said = tt
      go (Err (Some refusal)) o is said = absurd said

  -- and so is its stop, where none is a refusal
  pub found_stop : (stop : Stop) → Says {B = Mes} (λ m. m) (message_in T q) (Err stop) → Says {B = Option Mes} (λ m. m) (found_at T q) (none_if_refused stop)
  found_stop stop said = go (message_in T q) (as_message (object_at T q)) stop said
    where
      go : (a : Answer Mes) (o : Option Mes) (stop : Stop) → Says {B = Mes} (λ m. m) a (Err stop) → Says {B = Option Mes} (λ m. m) (if not (agrees a o) then Err None else Ok o) (none_if_refused stop)
      go (Ok N) o (Refused given) said = absurd said
      go (Ok N) o Fault said = tt
      go (Ok N) o (Changed ib stored computed) said = absurd said
      go (Ok N) o Memory said = tt
      go (Err None) o stop said = tt
      go (Err (Some refusal)) None (Refused given) said = refl
      go (Err (Some refusal)) None Fault said = tt
      go (Err (Some refusal)) None (Changed ib stored computed) said = absurd said
      go (Err (Some refusal)) None Memory said = tt
      go (Err (Some refusal)) (Some M) stop said = tt

  -- what is found tells whether there is a message, and whether it is unread
  pub told_found : (m : Option Mes) → Says (λ m. m) (found_at T q) (Ok m) → Says (λ b. b) (message_told T q) (Ok (is_some m))
  told_found m said = elim (cases_Bool (is_untold T q)) [
    | inl t ↦ rw t tt
    | inr f ↦ rw f (ap is_some (rw f at said))
  ]

  pub told_stop : (stop : Stop) → Says {B = Option Mes} (λ m. m) (found_at T q) (Err stop) → Says {B = Bool} (λ b. b) (message_told T q) (Err stop)
  told_stop stop said = elim (cases_Bool (is_untold T q)) [
    | inl t ↦ rw t tt
    | inr f ↦ rw f (rw f at said)
  ]

  pub flag_found : (m : Option Mes) → Says (λ m. m) (found_at T q) (Ok m) → Says (λ f. f) (kept_flag T q) (Ok (option_map (λ (M : Mes). not (is_read M.props)) m))
  flag_found m said = elim (cases_Bool (is_untold T q)) [
    | inl t ↦ rw t tt
    | inr f ↦ rw f (ap (option_map (λ (M : Mes). not (is_read M.props))) (rw f at said))
  ]

  pub flag_stop : (stop : Stop) → Says {B = Option Mes} (λ m. m) (found_at T q) (Err stop) → Says {B = Option Bool} (λ f. f) (kept_flag T q) (Err stop)
  flag_stop stop said = elim (cases_Bool (is_untold T q)) [
    | inl t ↦ rw t tt
    | inr f ↦ rw f (rw f at said)
  ]

  -- of what something is known it is a message
  pub known_told : (flags : FlagList) → AreFlags (object_at T) flags → is_some (known_flag q flags) ≡ true → Says (λ b. b) (message_told T q) (Ok true)
  known_told flags are e = elim (cases_Bool (is_untold T q)) [
    | inl t ↦ rw t tt
    | inr f ↦ rw f (pick (known_flag q flags) refl e)
  ]
    where
      pick : (o : Option Bool) → known_flag q flags ≡ o → is_some o ≡ true → true ≡ is_some (as_message (object_at T q))
      pick None here e = cc
      pick (Some unread) here e = let k = are q (Unread unread) (note_of_flag q flags unread here) in rw k.1 refl

-- what was put at an id, or removed from it
pub flag_put : (T : Tree) (D : Changes) (q : ℕ) (object : Option Object) → map.get D.objects q ≡ Some object → flag_at T D q ≡ Ok (flag_of object)
flag_put T D q object e = rw e refl

-- where nothing was put or removed, what stands in the nodes
pub flag_as_kept : (T : Tree) (D : Changes) (q : ℕ) → map.get D.objects q ≡ None → flag_at T D q ≡ kept_flag T q
flag_as_kept T D q e = rw e refl

-- what is known of a message is so
pub kept_known : (T : Tree) (q : ℕ) (unread : Bool) (flags : FlagList) → AreFlags (object_at T) flags → known_flag q flags ≡ Some unread → Says (λ f. f) (kept_flag T q) (Ok (Some unread))
kept_known T q unread flags are e =
    let k = are q (Unread unread) (note_of_flag q flags unread e) in
    elim (cases_Bool (is_untold T q)) [ inl t ↦ rw t tt | inr f ↦ rw f (rw k.1 (ap Some (sym k.2))) ]
