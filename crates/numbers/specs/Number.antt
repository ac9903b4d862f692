-- All of the number definitions, in one place to import from.
pub use Rattle.decimals.specs.Decimal.{Options, Number, kind_number, style_number, display_number, digits_limit, scale_limit, fraction_limit}
unfoldable pub use Rattle.decimals.specs.Decimal.{default_options, shortest, or_zero}
unfoldable pub use Rattle.literals.specs.Literal.{is_number, literal}
pub use Rattle.decimals.specs.Text.{text_limit}
unfoldable pub use Rattle.decimals.specs.Text.{number_text, in_range, ranged_text}
unfoldable pub use Rattle.numbers.specs.Equal.{same_value, same_options, same_number}
