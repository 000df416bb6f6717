-- All that these types claim of the rules. Every edit of tests/wrong names one field, which a run by the edited rules makes false.
use Rattle.claims.specs.Histories.{AllKept, NeverTables, HeldAccepted, EmptyHeld, FiguresHeld}
use Rattle.claims.specs.Requests.{PlacedAsked, PlacedId, Lowest, Earliest, FirstBucket, FirstRaised, RaisedByOne, NewOnLast}
use Rattle.claims.specs.Requests.{FoundAlone, RequestPlaced, AllocateOne, AllocateFive, AllocateTwentyTwo, AllocateTwentyThree, FiveBefore}
use Rattle.claims.specs.Requests.{SixOnly, SevenOnly, EightOnly}
use Rattle.claims.specs.Counts.{CountFour, CountBetween, CountSame, CountBefore, CountCapped, RowDivided, FillerDivided}
use Rattle.claims.specs.Answered.{NewSize, GrowSize, KeepSize, ClearFresh, ClearGeneration, ClearPast, GrowRefused}
use Rattle.claims.specs.Answered.{AllocateRefused, DeallocateRefused, DeallocateNine, NewTwo, SoundTest}
use Rattle.claims.specs.Traces.{UnknownStops, LengthStops, CutStops, NeverFifteen, ReportThirteen, EveryReport, NewKept}
use Rattle.claims.specs.Traces.{NewTaken, ClearDone, GrowDone, DecimalReads, DecimalLeads, LittleEndian}
use Rattle.claims.specs.Traces.{Negative}
use Rattle.claims.specs.Chunks.{ChunksWhole, HeldLess, CutAtEnd, OverStill, UpToOffset, PastOffset, BufferShort, EndShort}
use Rattle.claims.specs.Files.{ReadBack, EqualBytes, DifferentBytes, OnlyWritten, ReadSound, Restarted, WriteBytes, HeadPlaces}
use Rattle.claims.specs.Files.{FigureSigned, NegativeUnsound, TablePlaces, WriteOne, WriteEighteen, WriteDone, WriteRefused, WriteFile}
use Rattle.claims.specs.Files.{ReadOne, ReadSixteen, ReadSeventeen, ReadRefused, ReadPast, NoGeneration}
use Rattle.claims.specs.Wear.{Emptied, NotEmptied, LastTwice, UnreferencedTakes, NeverEight}
use Rattle.claims.specs.Pictures.{PictureOne, PictureTwentyFour, PictureDone, PictureRefused, PictureText, PictureLines}
use Rattle.claims.specs.Pictures.{UsedArea, UsedOne, PartsSpan, DrawnInside, PartsApart, HeldDrawn}
use Rattle.claims.specs.Lists.{ListExact, NeverList, ReturnsHeld, FitsTest, ListRefused}
use Rattle.claims.specs.Orders.{ListOne, ListTwentyOne, ListNineteen, ListTwenty}

pub record Claims : Type 0 where
  -- any calls from a fresh atlas
  pub all_kept : AllKept
  pub never_tables : NeverTables
  pub held_accepted : HeldAccepted
  pub empty_held : EmptyHeld
  pub figures_held : FiguresHeld
  -- a request
  pub placed_asked : PlacedAsked
  pub placed_id : PlacedId
  pub lowest : Lowest
  pub earliest : Earliest
  pub first_bucket : FirstBucket
  pub first_raised : FirstRaised
  pub raised_by_one : RaisedByOne
  pub new_on_last : NewOnLast
  pub found_alone : FoundAlone
  pub request_placed : RequestPlaced
  pub allocate_one : AllocateOne
  pub allocate_five : AllocateFive
  pub allocate_twenty_two : AllocateTwentyTwo
  pub allocate_twenty_three : AllocateTwentyThree
  pub five_before : FiveBefore
  pub six_only : SixOnly
  pub seven_only : SevenOnly
  pub eight_only : EightOnly
  -- how many buckets a new shelf gets
  pub count_four : CountFour
  pub count_between : CountBetween
  pub count_same : CountSame
  pub count_before : CountBefore
  pub count_capped : CountCapped
  pub row_divided : RowDivided
  pub filler_divided : FillerDivided
  -- the other calls
  pub new_size : NewSize
  pub grow_size : GrowSize
  pub keep_size : KeepSize
  pub clear_fresh : ClearFresh
  pub clear_generation : ClearGeneration
  pub clear_past : ClearPast
  pub grow_refused : GrowRefused
  pub allocate_refused : AllocateRefused
  pub deallocate_refused : DeallocateRefused
  pub deallocate_nine : DeallocateNine
  pub new_two : NewTwo
  pub sound_test : SoundTest
  -- a replay
  pub unknown_stops : UnknownStops
  pub length_stops : LengthStops
  pub cut_stops : CutStops
  pub never_fifteen : NeverFifteen
  pub report_thirteen : ReportThirteen
  pub every_report : EveryReport
  pub new_kept : NewKept
  pub new_taken : NewTaken
  pub clear_done : ClearDone
  pub grow_done : GrowDone
  pub decimal_reads : DecimalReads
  pub decimal_leads : DecimalLeads
  pub little_endian : LittleEndian
  pub negative : Negative
  -- a replay in chunks
  pub chunks_whole : ChunksWhole
  pub held_less : HeldLess
  pub cut_at_end : CutAtEnd
  pub over_still : OverStill
  pub up_to_offset : UpToOffset
  pub past_offset : PastOffset
  pub buffer_short : BufferShort
  pub end_short : EndShort
  -- a file
  pub read_back : ReadBack
  pub equal_bytes : EqualBytes
  pub different_bytes : DifferentBytes
  pub only_written : OnlyWritten
  pub read_sound : ReadSound
  pub restarted : Restarted
  pub write_bytes : WriteBytes
  pub head_places : HeadPlaces
  pub figure_signed : FigureSigned
  pub negative_unsound : NegativeUnsound
  pub table_places : TablePlaces
  pub write_one : WriteOne
  pub write_eighteen : WriteEighteen
  pub write_done : WriteDone
  pub write_refused : WriteRefused
  pub write_file : WriteFile
  pub read_one : ReadOne
  pub read_sixteen : ReadSixteen
  pub read_seventeen : ReadSeventeen
  pub read_refused : ReadRefused
  pub read_past : ReadPast
  pub no_generation : NoGeneration
  -- worn-out buckets
  pub emptied : Emptied
  pub not_emptied : NotEmptied
  pub last_twice : LastTwice
  pub unreferenced_takes : UnreferencedTakes
  pub never_eight : NeverEight
  -- a picture
  pub picture_one : PictureOne
  pub picture_twenty_four : PictureTwentyFour
  pub picture_done : PictureDone
  pub picture_refused : PictureRefused
  pub picture_text : PictureText
  pub picture_lines : PictureLines
  pub used_area : UsedArea
  pub used_one : UsedOne
  pub parts_span : PartsSpan
  pub drawn_inside : DrawnInside
  pub parts_apart : PartsApart
  pub held_drawn : HeldDrawn
  -- the list
  pub list_exact : ListExact
  pub never_list : NeverList
  pub returns_held : ReturnsHeld
  pub fits_test : FitsTest
  pub list_refused : ListRefused
  pub list_one : ListOne
  pub list_twenty_one : ListTwentyOne
  pub list_nineteen : ListNineteen
  pub list_twenty : ListTwenty
