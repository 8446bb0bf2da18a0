-- What text is: the definitions of `utf8_char`. Assumes nothing.
pub use Rattle.utf8_char.specs.Text.{char_start, after, text_from}
unfoldable pub use Rattle.utf8_char.specs.Text.{first_of, is_text}
