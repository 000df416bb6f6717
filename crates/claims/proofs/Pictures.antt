-- The claims of specs/Pictures.antt.
use Rattle.laws.proofs.Sound.Test.{sound_test}
use Rattle.laws.proofs.Held.Test.{fits_test}
use Rattle.promises.proofs.Pictures.{picture_refusals, picture_text}
use Rattle.pictured.proofs.Used.{used_one}
use Rattle.pictured.proofs.Lying.{parts_span, drawn_inside, parts_apart, held_drawn}
use Rattle.claims.specs.Pictures.{PictureOne, PictureTwentyFour, PictureText, UsedOne, PartsSpan, DrawnInside, PartsApart, HeldDrawn}

-- ---- the call

pub picture_one : PictureOne
picture_one g out = let r = (picture_refusals g out).one in (r.when, r.only)

pub picture_twenty_four : PictureTwentyFour
picture_twenty_four g out = let r = (picture_refusals g out).twenty_four in (λ e l. r.when ((sound_test g).0 e, l), r.only)

pub pictures_text : PictureText
pictures_text g out n e = let t = picture_text g out n e in (t.bytes, t.text, t.behind, t.most)

-- ---- the drawing

pub one_used : UsedOne
one_used g e = let u = used_one g ((sound_test g).0 e) in (u.chains, u.released)

pub spans_parts : PartsSpan
spans_parts g e i k l c = let p = parts_span g ((sound_test g).0 e) i k l c in (p.used, (p.span, p.alone, p.both))

pub inside_drawn : DrawnInside
inside_drawn g e n l = let d = drawn_inside g ((sound_test g).0 e) n l in (d.across, d.down)

pub apart_parts : PartsApart
apart_parts g e i j k l m n x y a b p q = parts_apart g ((sound_test g).0 e) i j k l x y
    (record { there = a.0; member = a.1; place = m; within = a.2; paints = record { right = p.0; left = p.1; below = p.2; above = p.3 } })
    (record { there = b.0; member = b.1; place = n; within = b.2; paints = record { right = q.0; left = q.1; below = q.2; above = q.3 } })

pub drawn_held : HeldDrawn
drawn_held g list e n l = let h = held_drawn g list ((fits_test g list).0 e) n l in (h.left, h.right, h.top, h.bottom)
