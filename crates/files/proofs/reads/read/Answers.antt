use mathlib.Core.Path.{sym, ◌∙◌}
use Rattle.laws.proofs.Tests.Tells.{true_false}
use Rattle.files.proofs.Answers.{no_room, no_file, other_version, unsound_file, file_read, head_whole, opened, rows_fit}
use Rattle.files.proofs.reads.read.Goals as goal

pub returns-then-not-is_lent : goal.returns-then-not-is_lent
returns-then-not-is_lent c = no_room _ _ _ (λ l. true_false (sym (c.is_lent.ensures.shown l) ∙ c.if-not-is_lent.true))

pub returns-then-not-is_file : goal.returns-then-not-is_file
returns-then-not-is_file c = no_file _ _ _ (c.is_lent.ensures.holds c.if-not-is_lent.false) (sym c.is_file.ensures ∙ c.if-not-is_file.true)

pub version_in-requires : goal.version_in-requires
version_in-requires c = head_whole _ (sym c.is_file.ensures ∙ c.if-not-is_file.false)

pub returns-then-version_in-ne-FILE_VERSION : goal.returns-then-version_in-ne-FILE_VERSION
returns-then-version_in-ne-FILE_VERSION c =
    other_version _ _ _ (c.is_lent.ensures.holds c.if-not-is_lent.false) (sym c.is_file.ensures ∙ c.if-not-is_file.false)
    (λ e. c.if-version_in-ne-FILE_VERSION.true (c.version_in.ensures ∙ e))

pub head_in-head-requires : goal.head_in-head-requires
head_in-head-requires c = head_whole _ (sym c.is_file.ensures ∙ c.if-not-is_file.false)

pub is_sound-requires : goal.is_sound-requires
is_sound-requires c = opened _ (sym c.is_file.ensures ∙ c.if-not-is_file.false) c.head_in-head.ensures

pub returns-then-not-is_sound : goal.returns-then-not-is_sound
returns-then-not-is_sound c =
    let l = c.is_lent.ensures.holds c.if-not-is_lent.false in
    unsound_file _ _ _ l (sym c.is_file.ensures ∙ c.if-not-is_file.false)
    (sym c.version_in.ensures ∙ c.if-version_in-ne-FILE_VERSION.false) (sym (c.is_sound.ensures _ _ l) ∙ c.if-not-is_sound.true)

pub store-requires : goal.store-requires
store-requires c =
    let l = c.is_lent.ensures.holds c.if-not-is_lent.false in (
      opened _ (sym c.is_file.ensures ∙ c.if-not-is_file.false) c.head_in-head.ensures,
      rows_fit _ _ _ c.head_in-head.ensures l (sym (c.is_sound.ensures _ _ l) ∙ c.if-not-is_sound.false),
    )

pub returns : goal.returns
returns c =
    let l = c.is_lent.ensures.holds c.if-not-is_lent.false in
    file_read _ _ _ l (sym c.is_file.ensures ∙ c.if-not-is_file.false)
    (sym c.version_in.ensures ∙ c.if-version_in-ne-FILE_VERSION.false) (sym (c.is_sound.ensures _ _ l) ∙ c.if-not-is_sound.false)
    c.store.ensures
