-- What specs/Files.antt claims of files, each from the theorem that it names.
use Prim.Native.Nat.{ℕ}
use mathlib.Core.Path.{◌≡◌, refl, sym, ◌∙◌}
use mathlib.Core.Logic.{inl, inr}
use mathlib.Core.List.{List}
use Rattle.rules.specs.declared.Bucket.{Bucket}
use Rattle.rules.specs.Tables.{Atlas, bucket_at}
use Rattle.rules.specs.Sound.{SoundBy, is_lent}
use Rattle.rules.specs.Builds.{Build, present}
use Rattle.rules.specs.Repair.{repaired}
use Rattle.rules.specs.Files.{version_in, bucket_from}
use Rattle.laws.proofs.Tests.Flags.{split}
use Rattle.laws.proofs.Tests.Tells.{false_true}
use Rattle.laws.proofs.Sound.Test.{lent_test, sound_test}
use Rattle.laws.proofs.Sound.Below.{SameBelow}
use Rattle.laws.proofs.Files.Repaired.{AsRead, risen_one, repaired_used, repaired_idle, repaired_worn}
use Rattle.promises.proofs.Files.{write_file, write_bytes, write_equal, write_different, read_back, figure_signed, negative_unsound}
use Rattle.promises.proofs.Repairs.{only_written, no_generation}
use Rattle.promises.proofs.FilesPlaces.{file_places}
use Rattle.promises.proofs.FilesRefused.{Formed, formed_version, write_refusals, read_refusals}
use Rattle.promises.proofs.History.{restart, invariant}
use Rattle.claims.specs.Files.{Same, SameRepaired, NoGeneration, ReadBack, EqualBytes, DifferentBytes, OnlyWritten, Restarted, WriteBytes}
use Rattle.claims.specs.Files.{HeadPlaces, FigureSigned}
use Rattle.claims.specs.Files.{NegativeUnsound, TablePlaces, WriteOne, WriteEighteen, WriteFile, OfVersion, ReadOne, ReadSixteen, ReadSeventeen}

-- ---- there and back

same : {g g' : Atlas} → SameBelow g g' → Same g g'
same d = (d.head, d.shelf, d.bucket)

same_below : {g g' : Atlas} → Same g g' → SameBelow g g'
same_below d = record { head = d.0; shelf = d.1; bucket = d.2 }

same_repaired : {build : Build} {g g' : Atlas} → SoundBy build g → AsRead present g g' → SameRepaired g g'
same_repaired {build} {g} {g'} p d = (
  d.head,
  d.shelf,
  λ k l.
      let v : Bucket = bucket_at g.buckets k in
      let is : bucket_at g'.buckets k ≡ repaired v = d.bucket k l in (
        λ ne. is ∙ repaired_used v ne,
        λ z. is ∙ repaired_idle v z,
        λ z ne. is ∙ repaired_worn v z ne ∙ rw (z, risen_one v.generation (p.steady.generations k l)) refl,
      ),
)

pub reads_back : ReadBack
reads_back build g s b e l = let r = read_back build g s b ((sound_test g).0 e) ((lent_test s b).holds l) in (r.0, same r.1)

pub equal_bytes : EqualBytes
equal_bytes build g g' d = write_equal build g g' (same_below d)

pub different_bytes : DifferentBytes
different_bytes build g g' e = same (write_different build g g' e)

pub taken_written : OnlyWritten
taken_written file s b head bytes e = (only_written file s b bytes head e).written

pub restarted : Restarted
restarted build past g x r out n e s b l =
    let k = restart present build past g x r out n e s b ((lent_test s b).holds l) in
    (k.accepted, same_repaired (invariant r).sound k.read, k.kept, k.only)

-- ---- the form of a file

pub writes_bytes : WriteBytes
writes_bytes build g e = write_bytes build g ((sound_test g).0 e)

pub head_places : HeadPlaces
head_places Build.keeping g = let p = file_places Build.keeping g in (p.head, p.flag)
head_places Build.holding g = let p = file_places Build.holding g in (p.head, p.flag)
head_places Build.naming g = let p = file_places Build.naming g in (p.head, p.flag)
head_places Build.dividing g = let p = file_places Build.dividing g in (p.head, p.flag)
head_places Build.renewing g = let p = file_places Build.renewing g in (p.head, p.flag)

pub figures_signed : FigureSigned
figures_signed build g e = figure_signed build g ((sound_test g).0 e)

pub negatives_unsound : NegativeUnsound
negatives_unsound file s b head m e a = negative_unsound file s b m e head a

pub table_places : TablePlaces
table_places build g = let p = file_places build g in (p.shelf, p.bucket, p.end)

pub no_generations : NoGeneration
unfolding bucket_from
no_generations file s b head e k l = no_generation file s b head e k l

-- ---- write

pub write_one : WriteOne
write_one build g out = let w = (write_refusals build g out).one in (w.when, w.only)

pub write_eighteen : WriteEighteen
write_eighteen build g out = let w = (write_refusals build g out).eighteen in (λ e l. w.when ((sound_test g).0 e, l), w.only)

pub writes_file : WriteFile
writes_file build g out n e = let w = write_file build g out n e in (w.bytes, w.file, w.behind)

-- ---- read

-- a file of some version is one of its own, and the other way round
abbrev formed : (version : ℕ) {file : List ℕ} → OfVersion version file → Formed file
formed version f = record { version = version; head = f.0; shelf = f.1; bucket = f.2; is = f.3 }

of_version : {version : ℕ} {file : List ℕ} → Formed file → version_in file ≡ version → OfVersion version file
of_version f e = rw (← e, formed_version f) (f.head, f.shelf, f.bucket, f.is)

version_of : (version : ℕ) {file : List ℕ} → OfVersion version file → version_in file ≡ version
version_of version f = formed_version (formed version f)

pub read_one : ReadOne
read_one file s b bytes =
    let r = (read_refusals file s b bytes).one in (
      λ no'. r.when (inl no'),
      λ f unsound. split (is_lent s b) (λ e. r.when (inr ((lent_test s b).holds e, (formed 1 f, (version_of 1 f, unsound)))))
          (λ e. r.when (inl (λ l. false_true (sym e ∙ (lent_test s b).shown l)))),
      λ e. elim (r.only e) [ inl no' ↦ inl no' | inr x ↦ inr (of_version x.1.0 x.1.1.0, x.1.1.1) ],
    )

pub read_sixteen : ReadSixteen
read_sixteen file s b bytes =
    let r = (read_refusals file s b bytes).sixteen in (
      λ l no'. r.when ((lent_test s b).holds l, λ f. no' f.version (f.head, f.shelf, f.bucket, f.is)),
      λ e. let x = r.only e in (x.0, λ version f. x.1 (formed version f)),
    )

pub read_seventeen : ReadSeventeen
read_seventeen file s b bytes =
    let r = (read_refusals file s b bytes).seventeen in (
      λ version l ne f. r.when ((lent_test s b).holds l, (formed version f, λ e. ne (sym (version_of version f) ∙ e))),
      λ e. let x = r.only e in (x.0, version_in file, x.1.1, of_version x.1.0 refl),
    )
