mod Sending
mod StopTexts
