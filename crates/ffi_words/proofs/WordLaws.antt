-- The numbers of refusals are small, and a kind of file tells whether it is split. Assumes nothing.
use mathlib.Core.Bool.{Bool, true, false}
use mathlib.Core.Path.{◌≡◌, refl}
use Prim.Native.Nat.{◌<◌}
use native.Mathlib.Omega.{arith}
use Rattle.section_bytes.specs.Common.{is_split}
use Rattle.section_bytes.specs.Error.{number}
use Rattle.section_bytes.specs.declared.error.Error.{Error}
use Rattle.section_bytes.specs.declared.error.Error.TheVariants.{
  UnexpectedEof,
  BadUnsignedLeb128,
  UnknownRangeListsEntry,
  UnknownLocListsEntry,
  UnknownVersion,
  UnsupportedAddressSize,
  UnsupportedSegmentSize,
  UnknownReservedLength,
  UnsupportedOffset,
  TooManyRanges,
  NoSpace,
  BadSheet,
  NoSuchMark,
  BadSpan,
  PaddedNumber,
  Tombstone,
  BackwardRange,
  AddressTooLarge,
  BadKindTable,
  TooManyAddresses,
  DescendingAddresses,
}
use Rattle.ffi_words.specs.Common.{file_of}

pub number_small : (e : Error) → number e < 22
number_small UnexpectedEof = omega arith
number_small BadUnsignedLeb128 = omega arith
number_small (UnknownRangeListsEntry code) = omega arith
number_small (UnknownLocListsEntry code) = omega arith
number_small (UnknownVersion version) = omega arith
number_small (UnsupportedAddressSize size) = omega arith
number_small (UnsupportedSegmentSize size) = omega arith
number_small (UnknownReservedLength value) = omega arith
number_small UnsupportedOffset = omega arith
number_small TooManyRanges = omega arith
number_small NoSpace = omega arith
number_small BadSheet = omega arith
number_small NoSuchMark = omega arith
number_small BadSpan = omega arith
number_small PaddedNumber = omega arith
number_small Tombstone = omega arith
number_small BackwardRange = omega arith
number_small AddressTooLarge = omega arith
number_small BadKindTable = omega arith
number_small TooManyAddresses = omega arith
number_small DescendingAddresses = omega arith

pub file_split : (b : Bool) → is_split (file_of b) ≡ b
file_split true = refl
file_split false = refl
