-- T-01 for those who link the panel: a buffer of the largest file's length is never too short, and what treadwharf_write put into it is read
-- back by treadwharf_read over any lent slices with room, whatever is in them. The run goes on from the writing: what was held then is held. T-02:
-- the list before the read is at an end, and the held rectangles, lent anew, fit.
use Rattle.std.specs.Prelude.{Ok}
use Prim.Native.Nat.{ℕ, ◌≤◌}
use mathlib.Core.Bool.{true}
use mathlib.Core.Path.{◌≡◌, refl, sym, ◌∙◌, ap, subst}
use mathlib.Core.List.{List}
use native.Mathlib.Omega.{arith}
use lib.ListN.{length}
use Rattle.rules.specs.declared.Allocation.{Allocation}
use Rattle.rules.specs.declared.Head.{Head}
use Rattle.rules.specs.Limits.{file_most}
use Rattle.rules.specs.Tables.{Atlas}
use Rattle.rules.specs.Sound.{Sound, Lent}
use Rattle.rules.specs.Builds.{Build, present}
use Rattle.rules.specs.Files.{Saved}
use Rattle.rules.specs.Files as files
use Rattle.rules.specs.Held.{Fits}
use Rattle.rules.specs.Listed as listed
use Rattle.rules.specs.History.{Event, Listing, Run, held, saves, file_in, read_into}
use Rattle.laws.proofs.Sound.Below.{SameBelow}
use Rattle.laws.proofs.Files.Repaired.{AsRead, same_read}
use Rattle.promises.proofs.AsBefore.{as_before}
use Rattle.promises.proofs.Files.{file_most_law, read_sound_law}
use Rattle.promises.proofs.FilesRefused.{write_refusals}
use Rattle.promises.proofs.History as history
use Rattle.treadwharf.specs.Panel.{lent}
use Rattle.treadwharf.specs.Panel as panel
use Rattle.boundary.specs.Calls.{PanelRun, atlas_of, text_told}
use Rattle.boundary.proofs.Fitting.{PanelPassing, fits_passing, passing_fits}
use Rattle.boundary.proofs.Files.{WroteText, wrote_text, text_accepted, ReadIn, read_in, read_accepted}
use Rattle.boundary.proofs.Runs.{RulesRun, run_sound, panel_run, panel_fits}
use Rattle.laws.proofs.Results.{ok_one}

-- treadwharf_write returns 0, where treadwharf_fits returns true: so after any calls of a run (panel_fits)
pub fits_writes : (x s b : List ℕ) (list : List Allocation) → panel.fits x s b list ≡ true → (buffer out : List ℕ) → file_most ≤ length buffer
    → 1 ≤ length out → (panel.write present x s b list buffer out).told.number ≡ 0
fits_writes x s b list f buffer out most l =
    let p : PanelPassing x s b list = fits_passing x s b list f in
    let g : Atlas = atlas_of x s b in
    text_accepted (listed.write present) x s b list buffer out _ p.head l
    (ap (λ (w : Saved). w.written) ((as_before (lent x s b list) p.passing).write buffer)
    ∙ (write_refusals present g buffer).done p.passing.sound (omega (arith, most, file_most_law present g p.passing.sound)))

pub panel_writes : {past : List Event} {x s b : List ℕ} {list : List Allocation} → PanelRun past x s b (Listing.lent list)
    → (buffer out : List ℕ) → file_most ≤ length buffer → 1 ≤ length out → (panel.write present x s b list buffer out).told.number ≡ 0
panel_writes {past} {x} {s} {b} {list} r = fits_writes x s b list (panel_fits r)

-- g is the atlas that was written
pub record PanelRestart (past : List Event) (g : Atlas) (x s b file : List ℕ) : Type 0 where
  -- treadwharf_read returns 0
  pub accepted : (panel.read x s b file).told.number ≡ 0
  -- with the same header, and the same records below its counts, each bucket as this build reads it (T-08)
  pub read : AsRead present g (atlas_of (panel.read x s b file).told.header (panel.read x s b file).shelves (panel.read x s b file).buckets)
  -- and the run goes on with the past of the writing, with no list
  pub run : PanelRun past (panel.read x s b file).told.header (panel.read x s b file).shelves (panel.read x s b file).buckets Listing.none
  -- of what was held then, lent anew, treadwharf_fits says yes
  pub fits : panel.fits (panel.read x s b file).told.header (panel.read x s b file).shelves (panel.read x s b file).buckets (held past) ≡ true

-- of whatever build's run the file is
pub file_restart : (earlier : Build) (past : List Event) (g : Atlas) (listing : Listing) → Run earlier past g listing → (buffer : List ℕ) (n : ℕ)
    → (saves earlier g listing buffer).written ≡ Ok n → (file : List ℕ) → file ≡ file_in (saves earlier g listing buffer) n
    → (x s b : List ℕ) → 12 ≤ length x → Lent s b → PanelRestart past g x s b file
file_restart earlier past g listing r buffer n w file f x s b l lent =
    let t : history.Restart present past g file s b = subst (λ (bytes : List ℕ). history.Restart present past g bytes s b) (sym f)
    (history.restart present earlier past g listing r buffer n w s b lent) in
    let accepted : (panel.read x s b file).told.number ≡ 0 = read_accepted x s b file g.head l t.accepted in
    let i : ReadIn s b file (panel.read x s b file) = read_in x s b file accepted in
    let after : Atlas = atlas_of (panel.read x s b file).told.header (panel.read x s b file).shelves (panel.read x s b file).buckets in
    let is : read_into g.head (files.read file s b) ≡ after =
    ap (λ (h : Head). read_into h (files.read file s b)) (ok_one (sym i.made ∙ t.accepted)) ∙ sym i.state in
    record {
      accepted = accepted;
      read = subst (AsRead present g) is t.read;
      run = PanelRun.restored earlier past g listing r buffer n w file f x s b accepted;
      fits = passing_fits (panel.read x s b file).told.header (panel.read x s b file).shelves (panel.read x s b file).buckets (held past) (record {
        head = i.is;
        passing = record {
          sound = subst Sound (sym i.state) (read_sound_law present file s b i.head i.made);
          fits = subst (λ (a : Atlas). Fits a (held past)) is t.fits;
        };
      });
    }

-- of what treadwharf_write wrote in a run of panel calls
pub panel_restart : {past : List Event} {header shelves buckets : List ℕ} {list : List Allocation}
    → PanelRun past header shelves buckets (Listing.lent list) → (buffer out : List ℕ)
    → (panel.write present header shelves buckets list buffer out).told.number ≡ 0 → (x s b : List ℕ) → 12 ≤ length x → Lent s b
    → PanelRestart past (atlas_of header shelves buckets) x s b (text_told (panel.write present header shelves buckets list buffer out))
panel_restart {past} {header} {shelves} {buckets} {list} r buffer out z x s b =
    let q : RulesRun past header shelves buckets (Listing.lent list) = panel_run r in
    let w : WroteText (listed.write present) (lent header shelves buckets list) buffer (panel.write present header shelves buckets list buffer out) =
    wrote_text (listed.write present) header shelves buckets list buffer out q.head z in
    file_restart present past (atlas_of header shelves buckets) (Listing.lent list) q.run buffer w.bytes w.written
    (text_told (panel.write present header shelves buckets list buffer out)) w.text x s b

-- which has nothing to repair: what it wrote is read as it was
pub panel_same : {past : List Event} {header shelves buckets : List ℕ} {list : List Allocation}
    → PanelRun past header shelves buckets (Listing.lent list) → (buffer out : List ℕ)
    → (panel.write present header shelves buckets list buffer out).told.number ≡ 0 → (x s b : List ℕ) → 12 ≤ length x → Lent s b
    → (let back = panel.read x s b (text_told (panel.write present header shelves buckets list buffer out)) in
    SameBelow (atlas_of header shelves buckets) (atlas_of back.told.header back.shelves back.buckets))
panel_same r buffer out z x s b l lent = same_read (panel_restart r buffer out z x s b l lent).read ((run_sound (panel_run r)).rested refl)
