-- T-07 for those who link the panel: a buffer of the largest picture's length is never too short, and what treadwharf_picture put into it is the picture
-- of the atlas that is lent.
use Prim.Native.Nat.{ℕ, ◌≤◌}
use mathlib.Core.Bool.{true}
use mathlib.Core.Path.{◌≡◌, sym, ap, ◌∙◌}
use mathlib.Core.List.{List}
use native.Mathlib.Omega.{arith}
use lib.ListN.{length}
use Rattle.rules.specs.declared.Allocation.{Allocation}
use Rattle.rules.specs.Limits.{picture_most}
use Rattle.rules.specs.Tables.{Atlas}
use Rattle.rules.specs.Saving.{Saved}
use Rattle.rules.specs.Picture.{picture_of, picture}
use Rattle.rules.specs.Listed as listed
use Rattle.rules.specs.History.{Event, Listing, file_in}
use Rattle.laws.proofs.Picture.Most.{picture_most_law}
use Rattle.promises.proofs.AsBefore.{as_before}
use Rattle.promises.proofs.Pictures.{picture_refusals, picture_text}
use Rattle.treadwharf.specs.Panel.{lent}
use Rattle.treadwharf.specs.Panel as panel
use Rattle.boundary.specs.Calls.{PanelRun, atlas_of, text_told}
use Rattle.boundary.proofs.Fitting.{PanelPassing, fits_passing}
use Rattle.boundary.proofs.Files.{WroteText, wrote_text, text_accepted}
use Rattle.boundary.proofs.Runs.{panel_fits}

module _ (x s b : List ℕ) (list : List Allocation) (f : panel.fits x s b list ≡ true) (buffer out : List ℕ) where
  abbrev g : Atlas
  g = atlas_of x s b

  same : listed.picture (lent x s b list) buffer ≡ picture g buffer
  same = (as_before (lent x s b list) (fits_passing x s b list f).passing).picture buffer

  -- treadwharf_picture returns 0, where treadwharf_fits returns true: so after any calls of a run (panel_fits)
  pub fits_pictures : picture_most ≤ length buffer → 1 ≤ length out → (panel.picture x s b list buffer out).told.number ≡ 0
  fits_pictures most l =
      let p : PanelPassing x s b list = fits_passing x s b list f in
      text_accepted listed.picture x s b list buffer out _ p.head l
      (ap (λ (w : Saved). w.written) same
      ∙ (picture_refusals g buffer).done p.passing.sound (omega (arith, most, picture_most_law g p.passing.sound)))

  -- the bytes that it told of
  pub fits_drawn : (panel.picture x s b list buffer out).told.number ≡ 0 → text_told (panel.picture x s b list buffer out) ≡ picture_of g
  fits_drawn z =
      let w : WroteText listed.picture (lent x s b list) buffer (panel.picture x s b list buffer out) =
      wrote_text listed.picture x s b list buffer out (fits_passing x s b list f).head z in
      w.text ∙ ap (λ (d : Saved). file_in d w.bytes) same
      ∙ (picture_text g buffer w.bytes (ap (λ (d : Saved). d.written) (sym same) ∙ w.written)).text

pub panel_pictures : {past : List Event} {x s b : List ℕ} {list : List Allocation} → PanelRun past x s b (Listing.lent list)
    → (buffer out : List ℕ) → picture_most ≤ length buffer → 1 ≤ length out → (panel.picture x s b list buffer out).told.number ≡ 0
panel_pictures {past} {x} {s} {b} {list} r = fits_pictures x s b list (panel_fits r)

pub panel_drawn : {past : List Event} {x s b : List ℕ} {list : List Allocation} → PanelRun past x s b (Listing.lent list)
    → (buffer out : List ℕ) → (panel.picture x s b list buffer out).told.number ≡ 0
    → text_told (panel.picture x s b list buffer out) ≡ picture_of (atlas_of x s b)
panel_drawn {past} {x} {s} {b} {list} r = fits_drawn x s b list (panel_fits r)
