-- The table of refusals (docs/SCOPE.md, "Refusals"): the number and the values of each. Nothing else knows a number.
use Rattle.std.specs.Prelude.{ℕ, List, [], ◌∷◌, Ok, Err}
use Rattle.std.specs.declared.result.Result.{Result as Answer}
use Rattle.section_bytes.specs.Read.{Result, gives, refused, got, Read}
use Rattle.section_bytes.specs.declared.error.Error.{Error}
use Rattle.section_bytes.specs.declared.error.Error.TheVariants.{
  UnexpectedEof,
  BadUnsignedLeb128,
  UnknownRangeListsEntry,
  UnknownLocListsEntry,
  UnknownVersion,
  UnsupportedAddressSize,
  UnsupportedSegmentSize,
  UnknownReservedLength,
  UnsupportedOffset,
  TooManyRanges,
  NoSpace,
  BadSheet,
  NoSuchMark,
  BadSpan,
  PaddedNumber,
  Tombstone,
  BackwardRange,
  AddressTooLarge,
  BadKindTable,
  TooManyAddresses,
  DescendingAddresses,
}

abbrev pub number : Error → ℕ
number UnexpectedEof = 1
number BadUnsignedLeb128 = 2
number (UnknownRangeListsEntry code) = 3
number (UnknownLocListsEntry code) = 4
number (UnknownVersion version) = 5
number (UnsupportedAddressSize size) = 6
number (UnsupportedSegmentSize size) = 7
number (UnknownReservedLength value) = 8
number UnsupportedOffset = 9
number TooManyRanges = 10
number NoSpace = 11
number BadSheet = 12
number NoSuchMark = 13
number BadSpan = 14
number PaddedNumber = 15
number Tombstone = 16
number BackwardRange = 17
number AddressTooLarge = 18
number BadKindTable = 19
number TooManyAddresses = 20
number DescendingAddresses = 21

abbrev pub values : Error → List ℕ
values UnexpectedEof = []
values BadUnsignedLeb128 = []
values (UnknownRangeListsEntry code) = code ∷ []
values (UnknownLocListsEntry code) = code ∷ []
values (UnknownVersion version) = version ∷ []
values (UnsupportedAddressSize size) = size ∷ []
values (UnsupportedSegmentSize size) = size ∷ []
values (UnknownReservedLength value) = value ∷ []
values UnsupportedOffset = []
values TooManyRanges = []
values NoSpace = []
values BadSheet = []
values NoSuchMark = []
values BadSpan = []
values PaddedNumber = []
values Tombstone = []
values BackwardRange = []
values AddressTooLarge = []
values BadKindTable = []
values TooManyAddresses = []
values DescendingAddresses = []

abbrev pub refusal : {A : Type 0} → Error → Result A
refusal e = refused (number e) (values e)

-- an answer of the code told as the definitions': of a call that gives a value alone; of one that gives the place after it, too;
-- and of one that gives a place alone
abbrev pub told_value : {A : Type 0} → Answer A Error → Result A
told_value (Ok a) = gives a
told_value (Err e) = refusal e

abbrev pub told : {A : Type 0} → Answer (A × ℕ) Error → Read A
told (Ok p) = gives (got p.0 p.1)
told (Err e) = refusal e

abbrev pub told_place : Answer ℕ Error → Read Unit
told_place (Ok c) = gives (got tt c)
told_place (Err e) = refusal e
